-- Writing cells over a device, one list after the other, and flashing the pieces of an image in turn.
use Rattle.std.proofs.Common.{◌≡◌, ℕ, suc, zero, ◌+◌, ◌*◌, ◌/◌, ◌%◌, ◌<◌, List, [], ◌∷◌, ◌++◌, length, replicate, map}
use Rattle.std.proofs.Common.{get_or, refl, sym, ap, ◌∙◌, nat_le, append_assoc, append-nil, arith, length-append}
use Rattle.std.proofs.Common.{zero-mul, Some, None, Option}
use Rattle.std.specs.Prelude.{unwrap_or}
use Rattle.std.specs.List.{AllByRecursion, concat}
use Rattle.std.proofs.lemmas.List.{map-append, length-map, length-replicate, replicate-append-replicate}
use Rattle.std.proofs.lemmas.List.Concat.{flat_map-append}
use Rattle.abt_sparse.specs.Block.{Block, Raw, Fill, Skip, IsBlock, AreBlocks, over, laid, cells, cells_of, block_bytes}
use Rattle.abt_sparse.specs.Block.{expansion}
use Rattle.abt_sparse.specs.Runs.{framed, frames, segments, weight, joined}
use Rattle.abt_sparse.proofs.AreAll.{AreBlocks-append, AreBlocks-joined}
use Rattle.abt_sparse.proofs.Greedy.{joined-greedy}
use Rattle.abt_sparse.specs.Laws.{flashed_all}

abbrev pub nones : ℕ → List (Option ℕ)
nones n = replicate n None

pub length-over : (p : List ℕ) (cs : List (Option ℕ)) → length (over p cs) ≡ length p
length-over [] cs = refl
length-over (y ∷ p) [] = refl
length-over (y ∷ p) (None ∷ cs) = ap suc (length-over p cs)
length-over (y ∷ p) (Some x ∷ cs) = ap suc (length-over p cs)

-- byte by byte: what the cell says, or what was there
pub get_or-over : (p : List ℕ) (cs : List (Option ℕ)) (i : ℕ) → i < length p
    → get_or (over p cs) i 0 ≡ unwrap_or (get_or cs i None) (get_or p i 0)
get_or-over [] cs i h = absurd (omega arith)
get_or-over (y ∷ p) [] zero h = refl
get_or-over (y ∷ p) [] (suc i) h = refl
get_or-over (y ∷ p) (None ∷ cs) zero h = refl
get_or-over (y ∷ p) (None ∷ cs) (suc i) h = get_or-over p cs i (omega arith)
get_or-over (y ∷ p) (Some x ∷ cs) zero h = refl
get_or-over (y ∷ p) (Some x ∷ cs) (suc i) h = get_or-over p cs i (omega arith)

-- over zeros, the cells with 0 for each None
pub laid_is : (cs : List (Option ℕ)) → laid cs ≡ map (λ o. unwrap_or o 0) cs
laid_is [] = refl
laid_is (None ∷ cs) = ap (λ (r : List ℕ). 0 ∷ r) (laid_is cs)
laid_is (Some x ∷ cs) = ap (λ (r : List ℕ). x ∷ r) (laid_is cs)

over_nil : (p : List ℕ) → over p [] ≡ p
over_nil [] = refl
over_nil (y ∷ p) = refl

pub over-nones : (p : List ℕ) (n : ℕ) → over p (nones n) ≡ p
over-nones [] n = refl
over-nones (y ∷ p) zero = refl
over-nones (y ∷ p) (suc n) = ap (λ (r : List ℕ). y ∷ r) (over-nones p n)

pub over_then_nones : (p : List ℕ) (cs : List (Option ℕ)) (n : ℕ) → over p (cs ++ nones n) ≡ over p cs
over_then_nones [] cs n = refl
over_then_nones (y ∷ p) [] n = over-nones (y ∷ p) n
over_then_nones (y ∷ p) (None ∷ cs) n = ap (λ (r : List ℕ). y ∷ r) (over_then_nones p cs n)
over_then_nones (y ∷ p) (Some x ∷ cs) n = ap (λ (r : List ℕ). x ∷ r) (over_then_nones p cs n)

-- cells written, and then others after them
pub over_behind : (p : List ℕ) (cs ds : List (Option ℕ))
    → over (over p cs) (nones (length cs) ++ ds) ≡ over p (cs ++ ds)
over_behind [] cs ds = refl
over_behind (y ∷ p) [] ds = refl
over_behind (y ∷ p) (None ∷ cs) ds = ap (λ (r : List ℕ). y ∷ r) (over_behind p cs ds)
over_behind (y ∷ p) (Some x ∷ cs) ds = ap (λ (r : List ℕ). x ∷ r) (over_behind p cs ds)

-- ---- blocks as cells

pub cells-skips : (b n : ℕ) → cells b (replicate n Skip) ≡ nones (n * b)
cells-skips b zero = rw zero-mul refl
cells-skips b (suc n) = ap (λ (r : List (Option ℕ)). nones b ++ r) (cells-skips b n)
    ∙ replicate-append-replicate b (n * b) None ∙ ap nones (omega arith)

length-words : (n : ℕ) (w : List ℕ) → length w ≡ 4 → length (concat (replicate n w)) ≡ n * 4
length-words zero w h = omega arith
length-words (suc n) w h = omega (arith, length-append w (concat (replicate n w)), length-words n w h)

pub length-block : (b : ℕ) (x : Block) → b % 4 ≡ 0 → IsBlock b x → length (cells_of b (block_bytes b x)) ≡ b
length-block b (Raw bytes) e h = length-map bytes (λ x. Some x) ∙ h
length-block b (Fill word) e h = let long = length-words (b / 4) word h in
    length-map (concat (replicate (b / 4) word)) (λ x. Some x) ∙ omega (arith, long)
length-block b Skip e h = length-replicate b None

pub length-cells : (b : ℕ) (l : List Block) → b % 4 ≡ 0 → AreBlocks b l → length (cells b l) ≡ length l * b
length-cells b [] e h = omega arith
length-cells b (x ∷ l) e h =
    omega (
      arith,
      length-append (cells_of b (block_bytes b x)) (cells b l),
      length-block b x e h.0,
      length-cells b l e h.1,
    )

pub cells-append : (b : ℕ) (l m : List Block) → cells b (l ++ m) ≡ cells b l ++ cells b m
cells-append b l m = flat_map-append (λ x. cells_of b (block_bytes b x)) l m

pub cells-framed : (b s : ℕ) (l : List Block) (t : ℕ) → cells b (framed s l t) ≡ nones (s * b)
    ++ (cells b l ++ nones (t * b))
cells-framed b s l t =
    cells-append b (replicate s Skip ++ l) (replicate t Skip)
    ∙ rw (cells-append b (replicate s Skip) l, cells-skips b s, cells-skips b t)
    (append_assoc (nones (s * b)) (cells b l) (nones (t * b)))

-- ---- pieces in turn

one_more : (b : ℕ) (p : List ℕ) (front seg : List Block) (t : ℕ) → b % 4 ≡ 0 → AreBlocks b front
    → over (over p (cells b front)) (cells b (framed (length front) seg t)) ≡ over p (cells b (front ++ seg))
one_more b p front seg t e h =
    let long : length front * b ≡ length (cells b front) = sym (length-cells b front e h) in
    rw (
      cells-framed b (length front) seg t,
      long,
      over_behind p (cells b front) (cells b seg ++ nones (t * b)),
      ← append_assoc (cells b front) (cells b seg) (nones (t * b)),
      over_then_nones p (cells b front ++ cells b seg)
          (t * b),
      cells-append b front seg,
    ) refl

pub in_turn_from : (b : ℕ) (p : List ℕ) (front : List Block) (segs : List (List Block)) → b % 4 ≡ 0
    → AreBlocks b front → AllByRecursion (AreBlocks b) segs
    → flashed_all b (over p (cells b front)) (frames (length front) segs) ≡ over p (cells b (front ++ joined segs))
in_turn_from b p front [] e h k = rw append-nil refl
in_turn_from b p front (s ∷ ss) e h k =
    let n : length front + length s ≡ length (front ++ s) = sym (length-append front s) in
    ap (λ (q : List ℕ). flashed_all b q (frames (length front + length s) ss))
    (one_more b p front s (length (joined ss)) e h)
    ∙ ap (λ (m : ℕ). flashed_all b (over p (cells b (front ++ s))) (frames m ss)) n
    ∙ in_turn_from b p (front ++ s) ss e (AreBlocks-append b front s h k.0) k.1
    ∙ ap (λ (l : List Block). over p (cells b l)) (append_assoc front s (joined ss))

-- flashing the pieces in turn is flashing the whole
pub in_turn : (b : ℕ) (p : List ℕ) (segs : List (List Block)) → b % 4 ≡ 0 → AllByRecursion (AreBlocks b) segs
    → flashed_all b p (frames 0 segs) ≡ over p (cells b (joined segs))
in_turn b p segs e k = rw over_nil at (in_turn_from b p [] segs e tt k)

-- ---- what each kind of chunk gives, over nothing

pub laid-append : (cs ds : List (Option ℕ)) → laid (cs ++ ds) ≡ laid cs ++ laid ds
laid-append cs ds = laid_is (cs ++ ds) ∙ map-append (λ o. unwrap_or o 0) cs ds ∙ rw (laid_is cs, laid_is ds) refl

pub laid_some : (xs : List ℕ) → laid (map (λ x. Some x) xs) ≡ xs
laid_some [] = refl
laid_some (x ∷ xs) = ap (λ (r : List ℕ). x ∷ r) (laid_some xs)

pub laid_none : (n : ℕ) → laid (nones n) ≡ replicate n 0
laid_none zero = refl
laid_none (suc n) = ap (λ (r : List ℕ). 0 ∷ r) (laid_none n)

pub expansion-cons : (b : ℕ) (x : Block) (l : List Block) → expansion b (x ∷ l) ≡ laid (cells_of b (block_bytes b x))
    ++ expansion b l
expansion-cons b x l = laid-append (cells_of b (block_bytes b x)) (cells b l)

-- the segments of an image in turn
pub segments_in_turn : (b : ℕ) (p : List ℕ) (l : List Block) (limit : ℕ) → b % 4 ≡ 0 → AreBlocks b l
    → flashed_all b p (frames 0 (segments limit b l)) ≡ over p (cells b l)
segments_in_turn b p l limit e h =
    let j : joined (segments limit b l) ≡ l = joined-greedy (λ part. nat_le (weight b part) limit) l [] in
    let all : AllByRecursion (AreBlocks b) (segments limit b l) = AreBlocks-joined b (segments limit b l) (rw j h) in
    in_turn b p (segments limit b l) e all ∙ ap (λ (m : List Block). over p (cells b m)) j
