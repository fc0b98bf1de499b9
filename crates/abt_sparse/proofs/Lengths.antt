-- A piece is as long as its runs, and at most as long as its weight.
use Rattle.std.proofs.Common.{◌≡◌, ℕ, suc, zero, ◌+◌, ◌≤◌, true, List, [], ◌∷◌, ◌++◌, length, replicate, map, refl, ap}
use Rattle.std.proofs.Common.{append_assoc, arith, inl, inr, length-append}
use Rattle.std.specs.List.{flat_map, concat}
use Rattle.std.proofs.lemmas.Bool.{cases_Bool}
use Rattle.abt_sparse.specs.Block.{Block, Raw, Fill, Skip, IsBlock, AreBlocks}
use Rattle.abt_sparse.specs.Runs.{alike, runs, weight, framed}
use Rattle.abt_sparse.specs.Chunk.{Chunk, chunk_of_run, raw_bytes, data_of, plain, header_record, plain_header, piece}
use Rattle.abt_sparse.proofs.AreAll.{AreBlocks-append, AreBlocks-skips}
use Rattle.abt_sparse.proofs.Weights.{runs_head, grouped-alike, grouped-apart, more, full, edge, total, inner, trimmed}
use Rattle.abt_sparse.proofs.Weights.{weight_is}

-- the data of a run
abbrev data_len : List Block → ℕ
data_len g = length (data_of (chunk_of_run g))

grow_data : (b : ℕ) (y z : Block) (g : List Block) → IsBlock b y → IsBlock b z → alike y z ≡ true
    → data_len (y ∷ z ∷ g) ≡ more b y + data_len (z ∷ g)
grow_data b (Raw x) (Raw w) g h k e = omega (arith, length-append x (concat (w ∷ map raw_bytes g)), h)
grow_data b (Fill v) (Fill w) g h k e = omega (arith, h, k)
grow_data b Skip Skip g h k e = refl
grow_data b (Raw x) (Fill w) g h k e = absurd cc
grow_data b (Raw x) Skip g h k e = absurd cc
grow_data b (Fill v) (Raw w) g h k e = absurd cc
grow_data b (Fill v) Skip g h k e = absurd cc
grow_data b Skip (Raw w) g h k e = absurd cc
grow_data b Skip (Fill w) g h k e = absurd cc

one_data : (b : ℕ) (y : Block) → IsBlock b y → 12 + data_len (y ∷ []) ≡ full b y
one_data b (Raw x) h = omega (arith, length-append x [], h)
one_data b (Fill w) h = omega (arith, h)
one_data b Skip h = refl

-- the chunks of the groups, as bytes
abbrev written : List (List Block) → List ℕ
written gs = flat_map plain (map chunk_of_run gs)

length-plain : (c : Chunk) → length (plain c) ≡ 12 + length (data_of c)
length-plain c = omega arith

written-cons : (g : List Block) (gs : List (List Block))
    → length (written (g ∷ gs)) ≡ 12 + data_len g + length (written gs)
written-cons g gs = omega (arith, length-append (plain (chunk_of_run g)) (written gs), length-plain (chunk_of_run g))

length-runs : (b : ℕ) (l : List Block) → AreBlocks b l → length (written (runs l)) ≡ total b l
length-runs b [] h = refl
length-runs b (y ∷ []) h = omega (arith, written-cons (y ∷ []) [], one_data b y h.0)
length-runs b (y ∷ z ∷ l) h =
    let v = runs_head z l in
    let ih : length (written ((z ∷ v.0) ∷ v.1)) ≡ total b (z ∷ l) = rw v.2 at (length-runs b (z ∷ l) h.1) in
    elim (cases_Bool (alike y z)) [
      | inl e ↦ rw (grouped-alike y z v.0 v.1 (runs (z ∷ l)) v.2 e, e)
          (omega (
            arith,
            written-cons (y ∷ z ∷ v.0) v.1,
            written-cons (z ∷ v.0) v.1,
            grow_data b y z v.0 h.0 h.1.0 e,
            ih,
          ))
      | inr e ↦ rw (grouped-apart y z v.0 v.1 (runs (z ∷ l)) v.2 e, e)
          (omega (arith, written-cons (y ∷ []) ((z ∷ v.0) ∷ v.1), one_data b y h.0, ih))
    ]

pub length-piece : (b : ℕ) (l : List Block) → AreBlocks b l → length (piece b l) ≡ 28 + total b l
length-piece b l h = omega (
  arith,
  length-append (header_record (plain_header b (length l) (length (map chunk_of_run (runs l)))))
      (written (runs l)),
  length-runs b l h,
)

-- ---- what surrounds a segment

pub skips_le : (b t : ℕ) → total b (replicate t Skip) ≤ 12
skips_le b zero = omega arith
skips_le b (suc zero) = omega arith
skips_le b (suc (suc t)) = let ih = skips_le b (suc t) in omega arith

tail_one : (b : ℕ) (y : Block) (t : ℕ) → total b (y ∷ replicate t Skip) ≤ 12 + edge b y
tail_one b Skip t = skips_le b (suc t)
tail_one b (Raw x) zero = omega arith
tail_one b (Raw x) (suc t) = let s = skips_le b (suc t) in omega arith
tail_one b (Fill x) zero = omega arith
tail_one b (Fill x) (suc t) = let s = skips_le b (suc t) in omega arith

tail_le : (b : ℕ) (l : List Block) (t : ℕ) → total b (l ++ replicate t Skip) ≤ 12 + inner b l
tail_le b [] t = skips_le b t
tail_le b (y ∷ []) t = tail_one b y t
tail_le b (y ∷ z ∷ l) t = let ih = tail_le b (z ∷ l) t in omega arith

head_one : (b : ℕ) (m : List Block) → total b (Skip ∷ m) ≤ 12 + total b m
head_one b [] = omega arith
head_one b (Skip ∷ m) = omega arith
head_one b (Raw x ∷ m) = omega arith
head_one b (Fill x ∷ m) = omega arith

head_le : (b s : ℕ) (m : List Block) → total b (replicate s Skip ++ m) ≤ 12 + total b m
head_le b zero m = omega arith
head_le b (suc zero) m = head_one b m
head_le b (suc (suc s)) m = let ih = head_le b (suc s) m in omega arith

slide : (s : ℕ) (m : List Block) → replicate s Skip ++ (Skip ∷ m) ≡ replicate (suc s) Skip ++ m
slide zero m = refl
slide (suc s) m = ap (λ (r : List Block). Skip ∷ r) (slide s m)

frame_le : (b : ℕ) (l : List Block) (s t : ℕ) → total b (replicate s Skip ++ (l ++ replicate t Skip)) ≤ 24 + trimmed b l
frame_le b [] s t = let h = head_le b s (replicate t Skip) in let k = skips_le b t in omega arith
frame_le b (Skip ∷ l) s t = rw (slide s (l ++ replicate t Skip)) (frame_le b l (suc s) t)
frame_le b (Raw x ∷ l) s t = let h = head_le b s (Raw x ∷ l ++ replicate t Skip) in let k = tail_le b (Raw x ∷ l) t in
    omega arith
frame_le b (Fill x ∷ l) s t = let h = head_le b s (Fill x ∷ l ++ replicate t Skip) in let k =
    tail_le b (Fill x ∷ l) t in omega arith

-- a piece is at most as long as its segment weighs
pub piece_le : (b : ℕ) (l : List Block) (s t : ℕ) → AreBlocks b l → length (piece b (framed s l t)) ≤ weight b l
piece_le b l s t h =
    let whole : AreBlocks b (framed s l t) =
    AreBlocks-append b (replicate s Skip ++ l) (replicate t Skip)
    (AreBlocks-append b (replicate s Skip) l (AreBlocks-skips b s) h) (AreBlocks-skips b t) in
    let g : framed s l t ≡ replicate s Skip ++ (l ++ replicate t Skip) =
    append_assoc (replicate s Skip) l (replicate t Skip) in
    let long : total b (framed s l t) ≤ 24 + trimmed b l = rw g (frame_le b l s t) in
    omega (arith, length-piece b (framed s l t) whole, long, weight_is b l)
