-- The numbers of a piece, counted from left to right part by part.
use Rattle.std.proofs.Common.{◌≡◌, ℕ, zero, suc, ◌+◌, ◌<◌, true, false, List, [], ◌∷◌, ◌++◌, length, replicate, refl}
use Rattle.std.proofs.Common.{sym, ap, ◌∙◌, arith, inl, inr}
use Rattle.std.proofs.lemmas.Bool.{cases_Bool}
use Rattle.abt_sparse.specs.Block.{Block, Raw, Fill, Skip, AreBlocks}
use Rattle.abt_sparse.specs.Runs.{runs, alike}
use Rattle.abt_sparse.specs.Chunk.{piece}
use Rattle.abt_sparse.proofs.Weights.{runs_head, grouped-apart, grouped-alike, total, step, full}
use Rattle.abt_sparse.proofs.Lengths.{length-piece}
use Rattle.abt_runs.specs.Part.{AllOf}
use Rattle.abt_runs.specs.declared.part.RunKind.{RunKind}
use Rattle.abt_runs.specs.declared.part.RunKind.TheVariants as kinds
use Rattle.abt_runs.specs.Whole.{alike_kinds}
use Rattle.abt_pieces.specs.declared.contents.PieceContents.{PieceContents}
use Rattle.abt_pieces.specs.Contents.{run_kind_of, opens, opens_len, copy_len, held, with_blocks, contents_before}
use Rattle.abt_pieces.specs.Contents.{chunks_of_kinds, sizes, written_in, last_of, IsContents}
use Rattle.abt_pieces.specs.Plan.{last_kind}
use Rattle.abt_pieces.specs.declared.segment_tail.Tail.TheVariants as tails
use Rattle.abt_runs.proofs.Alike.{kind_is, alike_is, self_alike, tail_of_all}

-- ---- two lists in a row

pub counts-append : (j : RunKind) (l m : List Block)
    → chunks_of_kinds j (l ++ m) ≡ chunks_of_kinds j l + chunks_of_kinds (last_of j l) m
counts-append j [] m = omega arith
counts-append j (x ∷ l) m = omega (arith, counts-append (run_kind_of x) l m)

pub last-append : (j : RunKind) (l m : List Block) → last_of j (l ++ m) ≡ last_of (last_of j l) m
last-append j [] m = refl
last-append j (x ∷ l) m = last-append (run_kind_of x) l m

pub sizes-append : (b : ℕ) (j : RunKind) (l m : List Block) → sizes b j (l ++ m) ≡ sizes b j l + sizes b (last_of j l) m
sizes-append b j [] m = omega arith
sizes-append b j (x ∷ l) m = omega (arith, sizes-append b (run_kind_of x) l m)

pub written-append : (l m : List Block) → written_in (l ++ m) ≡ written_in l + written_in m
written-append [] m = omega arith
written-append (x ∷ l) m = omega (arith, written-append l m)

-- ---- blocks of one class

record Alone (b : ℕ) (k : RunKind) (xs : List Block) : Type 0 where
  none : chunks_of_kinds k xs ≡ 0
  bytes : sizes b k xs ≡ copy_len k (length xs) b
  written : written_in xs ≡ held k (length xs)
  last : last_of k xs ≡ k

one_more : (b : ℕ) (k : RunKind) (n : ℕ) → copy_len k 1 b + copy_len k n b ≡ copy_len k (suc n) b
one_more b kinds.Raw n = omega arith
one_more b (kinds.Fill w) n = refl
one_more b kinds.Skip n = refl
one_more b kinds.End n = refl

one_held : (k : RunKind) (n : ℕ) → held k 1 + held k n ≡ held k (suc n)
one_held kinds.Raw n = omega arith
one_held (kinds.Fill w) n = omega arith
one_held kinds.Skip n = refl
one_held kinds.End n = refl

none_len : (b : ℕ) (k : RunKind) → copy_len k 0 b ≡ 0
none_len b kinds.Raw = omega arith
none_len b (kinds.Fill w) = refl
none_len b kinds.Skip = refl
none_len b kinds.End = refl

none_held : (k : RunKind) → held k 0 ≡ 0
none_held kinds.Raw = refl
none_held (kinds.Fill w) = refl
none_held kinds.Skip = refl
none_held kinds.End = refl

alone : (b : ℕ) (k : RunKind) (x : Block) (xs : List Block) → AllOf k (x ∷ xs) → Alone b k xs
alone b k x [] h = record { none = refl; bytes = sym (none_len b k); written = sym (none_held k); last = refl }
alone b k x (y ∷ xs) h =
    let t = tail_of_all k x (y ∷ xs) h in
    let ky = kind_is k y xs t in
    let same = self_alike k y ky in
    let r = alone b k y xs t in
    record {
      none = rw (ky, same) (omega (arith, r.none));
      bytes = rw (ky, same) (omega (arith, r.bytes, one_more b k (length xs)));
      written = rw ky (omega (arith, r.written, one_held k (length xs)));
      last = rw ky r.last;
    }

pub record OnePart (b : ℕ) (j k : RunKind) (xs : List Block) : Type 0 where
  pub chunks : chunks_of_kinds j xs ≡ opens j k
  pub bytes : sizes b j xs ≡ opens_len j k + copy_len k (length xs) b
  pub written : written_in xs ≡ held k (length xs)
  pub last : last_of j xs ≡ k

pub one_part : (b : ℕ) (j k : RunKind) (xs : List Block) → AllOf k xs → 0 < length xs → OnePart b j k xs
one_part b j k [] h some = absurd (omega arith)
one_part b j k (x ∷ xs) h some =
    let kx = kind_is k x xs h in
    let r = alone b k x xs h in
    record {
      chunks = rw kx (omega (arith, r.none));
      bytes = rw kx (omega (arith, r.bytes, one_more b k (length xs)));
      written = rw kx (omega (arith, r.written, one_held k (length xs)));
      last = rw kx r.last;
    }

-- ---- a piece that grows

pub contents_on : (b : ℕ) (l xs : List Block) (c : PieceContents) (j k : RunKind) (q : ℕ) → IsContents b l c
    → j ≡ last_of kinds.End l → AllOf k xs → 0 < q → length xs ≡ q
    → IsContents b (l ++ xs) (with_blocks c j k q b) × (last_of kinds.End (l ++ xs) ≡ k)
contents_on b l xs c j k q h last all some long =
    let p = one_part b (last_of kinds.End l) k xs all (omega arith) in
    let chunks : chunks_of_kinds (last_of kinds.End l) xs ≡ opens j k = rw last p.chunks in
    let bytes : sizes b (last_of kinds.End l) xs ≡ opens_len j k + copy_len k q b = rw (last, ← long) p.bytes in
    let written : written_in xs ≡ held k q = rw (← long) p.written in (
      record {
        chunks = omega (arith, counts-append kinds.End l xs, chunks, h.chunks);
        written = omega (arith, written-append l xs, written, h.written);
        bytes = omega (arith, sizes-append b kinds.End l xs, bytes, h.bytes);
      },
      last-append kinds.End l xs ∙ p.last,
    )

pub skips_all : (n : ℕ) → AllOf kinds.Skip (replicate n Skip)
skips_all n = ap (λ (m : ℕ). replicate m Skip) (sym (length_skips n))
  where
    length_skips : (n : ℕ) → length (replicate n Skip) ≡ n
    length_skips zero = refl
    length_skips (suc n) = ap suc (length_skips n)

-- skipped blocks alone
pub skips_contents : (b n : ℕ) → IsContents b (replicate n Skip) (contents_before n)
skips_contents b zero = record { chunks = refl; written = refl; bytes = refl }
skips_contents b (suc n) =
    let r = alone b kinds.Skip Skip (replicate n Skip) (skips_all (suc n)) in
    let c : chunks_of_kinds kinds.Skip (replicate n Skip) ≡ 0 = r.none in
    let w : written_in (replicate n Skip) ≡ 0 = r.written in
    let s : sizes b kinds.Skip (replicate n Skip) ≡ 0 = r.bytes in
    record { chunks = rw c refl; written = rw w refl; bytes = rw s refl }

pub skips_last : (n : ℕ) → last_of kinds.End (replicate n Skip) ≡ last_kind tails.Fresh n
skips_last zero = refl
skips_last (suc n) = (alone 0 kinds.Skip Skip (replicate n Skip) (skips_all (suc n))).last

-- ---- what the numbers are in the words of a piece

runs_behind : (y : Block) (l : List Block) → length (runs (y ∷ l)) ≡ suc (chunks_of_kinds (run_kind_of y) l)
runs_behind y [] = refl
runs_behind y (x ∷ l) =
    let v = runs_head x l in
    let r = runs_behind x l in
    elim (cases_Bool (alike y x)) [
      | inl e ↦
          let a : alike_kinds (run_kind_of y) (run_kind_of x) ≡ true = sym (alike_is y x) ∙ e in
          ap length (grouped-alike y x v.0 v.1 (runs (x ∷ l)) v.2 e) ∙ ap length (sym v.2) ∙ r ∙ (rw a (omega arith))
      | inr e ↦
          let a : alike_kinds (run_kind_of y) (run_kind_of x) ≡ false = sym (alike_is y x) ∙ e in
          ap length (grouped-apart y x v.0 v.1 (runs (x ∷ l)) v.2 e)
          ∙ ap (λ (gs : List (List Block)). suc (length gs)) (sym v.2) ∙ ap suc r ∙ (rw a (omega arith))
    ]

pub runs_count : (l : List Block) → length (runs l) ≡ chunks_of_kinds kinds.End l
runs_count [] = refl
runs_count (x ∷ l) = runs_behind x l
    ∙ (let z : suc (chunks_of_kinds (run_kind_of x) l) ≡ 1 + chunks_of_kinds (run_kind_of x) l = omega arith in z)

-- a block that goes with the one before it and a block that goes with the one after it add the same
swap : (b : ℕ) (y z : Block) → full b y + (opens_len (run_kind_of y) (run_kind_of z) + copy_len (run_kind_of z) 1 b)
    ≡ step b y z + full b z
swap b (Raw x) (Raw y) = omega arith
swap b (Raw x) (Fill w) = omega arith
swap b (Raw x) Skip = omega arith
swap b (Fill v) (Raw y) = omega arith
swap b (Fill v) (Fill w) = elim (cases_Bool (alike (Fill v) (Fill w))) [ inl e ↦ rw e refl | inr e ↦ rw e refl ]
swap b (Fill v) Skip = omega arith
swap b Skip (Raw y) = omega arith
swap b Skip (Fill w) = omega arith
swap b Skip Skip = refl

total_behind : (b : ℕ) (y : Block) (l : List Block) → total b (y ∷ l) ≡ full b y + sizes b (run_kind_of y) l
total_behind b y [] = omega arith
total_behind b y (z ∷ l) = omega (arith, total_behind b z l, swap b y z)

first_size : (b : ℕ) (y : Block) → full b y ≡ opens_len kinds.End (run_kind_of y) + copy_len (run_kind_of y) 1 b
first_size b (Raw x) = omega arith
first_size b (Fill w) = refl
first_size b Skip = refl

pub sizes_total : (b : ℕ) (l : List Block) → total b l ≡ sizes b kinds.End l
sizes_total b [] = refl
sizes_total b (y ∷ l) = omega (arith, total_behind b y l, first_size b y)

pub length_is : (b : ℕ) (l : List Block) → AreBlocks b l → length (piece b l) ≡ 28 + sizes b kinds.End l
length_is b l h = omega (arith, length-piece b l h, sizes_total b l)
