-- The blocks of a piece, and the parts of the image in it.
use Rattle.std.proofs.Common.{◌≡◌, ℕ, zero, suc, ◌+◌, ◌-◌, ◌<◌, ◌≤◌, true, false, List, [], ◌∷◌, ◌++◌, length, take}
use Rattle.std.proofs.Common.{drop, replicate, refl, sym, ap, subst, ◌∙◌, append_assoc, arith, inl, inr, length-append}
use Rattle.std.proofs.Common.{length-drop, ◌⊎◌}
use Rattle.std.proofs.Common.{IsTrue}
use Rattle.std.proofs.lemmas.Bool.{false≢true}
use Rattle.std.proofs.lemmas.List.{drop-drop, length-take-le, take-take, length-replicate, take-append-le}
use Rattle.std.proofs.lemmas.List.{drop-append-le, take_all, take-append-drop}
use Rattle.std.proofs.Math.Seq.{drop-append-add}
use Rattle.abt_sparse.specs.Block.{Block, Skip}
use Rattle.abt_sparse.specs.Runs.{runs}
use Rattle.abt_runs.specs.Part.{AllOf, PartOf, is_end}
use Rattle.abt_runs.specs.declared.part.RunKind.TheVariants as kinds
use Rattle.abt_runs.specs.declared.part.Run.{Run}
use Rattle.abt_runs.specs.declared.part.RunKind.{RunKind}
use Rattle.abt_pieces.specs.Plan.{between}
use Rattle.abt_runs.specs.Whole.{alike_kinds}
use Rattle.abt_runs.proofs.Alike.{kind_of, kind_is, all_append, alike_same, Ended, runs_apart}
use Rattle.abt_pieces.specs.Gather.{frame, Gathered}
use Rattle.abt_pieces.specs.declared.gather.Gatherer.{Gatherer}
use Rattle.abt_pieces.proofs.Planning.{between_more}
use Rattle.abt_pieces.proofs.Counting.{skips_all}
use Rattle.abt_pieces.proofs.Classes.{all_drop, all_take}

-- ---- the piece's blocks

drop-take' : (i k : ℕ) (y : List Block) → i ≤ k → drop i (take k y) ≡ take (k - i) (drop i y)
drop-take' zero k y le = ap (λ (j : ℕ). take j y) (let z : k ≡ k - 0 = omega arith in z)
drop-take' (suc i) zero y le = absurd (omega arith)
drop-take' (suc i) (suc k) [] le = sym (take_all (suc k - suc i) [] (omega arith))
drop-take' (suc i) (suc k) (x ∷ y) le = drop-take' i k y (omega arith)
    ∙ ap (λ (j : ℕ). take j (drop i y)) (let z : k - i ≡ suc k - suc i = omega arith in z)

pub length-between : (l : List Block) (s e : ℕ) → e ≤ length l → length (between l s e) ≡ e - s
length-between l s e le = length-take-le (e - s) (drop s l) (omega (arith, length-drop s l))

pub length-frame : (l : List Block) (s e : ℕ) → s ≤ e → e ≤ length l → length (frame l s e) ≡ length l
length-frame l s e order le =
    omega (
      arith,
      length-append (replicate s Skip ++ between l s e) (replicate (length l - e) Skip),
      length-append (replicate s Skip) (between l s e),
      length-replicate {A = Block} s Skip,
      length-replicate {A = Block} (length l - e) Skip,
      length-between l s e le,
    )

pub frame_take : (l : List Block) (s e i q : ℕ) → s ≤ i → i + q ≤ e → e ≤ length l
    → take q (drop i (frame l s e)) ≡ take q (drop i l)
frame_take l s e i q order within le =
    let tail = replicate (length l - e) Skip in
    let long : length (between l s e) ≡ e - s = length-between l s e le in
    let at : i ≡ length (replicate s Skip) + (i - s) = omega (arith, length-replicate {A = Block} s Skip) in
    let there : drop (i - s) (between l s e) ≡ take (e - s - (i - s)) (drop i l) =
    drop-take' (i - s) (e - s) (drop s l) (omega arith) ∙ ap (λ (r : List Block). take (e - s - (i - s)) r)
    (drop-drop (i - s) s l ∙ ap (λ (n : ℕ). drop n l) (let z : s + (i - s) ≡ i = omega arith in z)) in
    ap (λ (r : List Block). take q (drop i r)) (append_assoc (replicate s Skip) (between l s e) tail)
    ∙ ap (λ (n : ℕ). take q (drop n (replicate s Skip ++ (between l s e ++ tail)))) at
    ∙ ap (λ (r : List Block). take q r) (drop-append-add (replicate s Skip) (between l s e ++ tail) (i - s))
    ∙ ap (λ (r : List Block). take q r) (drop-append-le (i - s) (between l s e) tail (omega arith))
    ∙ take-append-le q (drop (i - s) (between l s e)) tail (omega (arith, length-drop (i - s) (between l s e)))
    ∙ ap (λ (r : List Block). take q r) there
    ∙ take-take q (e - s - (i - s)) (drop i l) (omega arith)

-- ---- parts of it

pub frame_part : (l : List Block) (s e i q : ℕ) (r r' : Run) → s ≤ i → i + q ≤ e → i < e → e ≤ length l → PartOf l i r
    → q ≤ r.blocks → r'.blocks ≡ q → r'.kind ≡ r.kind → r'.next.block ≡ i + q → PartOf (frame l s e) i r'
frame_part l s e i q r r' order within here le part less blocks same next =
    let front : take q (drop i (frame l s e)) ≡ take q (take r.blocks (drop i l)) =
    frame_take l s e i q order within le ∙ sym (take-take q r.blocks (drop i l) less) in
    let all : AllOf r.kind (take q (drop i (frame l s e))) =
    subst (λ (xs : List Block). AllOf r.kind xs) (sym front)
    (all_take r.kind q (take r.blocks (drop i l)) part.all) in
    record {
      within = omega (arith, length-frame l s e (omega arith) le);
      next = rw blocks next;
      all = rw (same, blocks) all;
      ended = λ h. absurd (let stop : i ≡ length l = part.ended (rw same at h) in omega arith);
    }

-- what follows the segment: don't care up to the end
pub frame_behind : (l : List Block) (s e i : ℕ) (r : Run) → s ≤ e → e ≤ length l → e ≤ i → i ≤ length l
    → r.blocks ≡ length l - i → r.next.block ≡ i + r.blocks
    → (r.kind ≡ kinds.Skip) ⊎ ((r.kind ≡ kinds.End) × (i ≡ length l)) → PartOf (frame l s e) i r
frame_behind l s e i r order le behind room blocks next kind =
    let long = length-frame l s e order le in
    record { within = omega (arith, long, blocks, room); next = next; all = all kind; ended = stops kind }
  where
    all : (r.kind ≡ kinds.Skip) ⊎ ((r.kind ≡ kinds.End) × (i ≡ length l))
        → AllOf r.kind (take r.blocks (drop i (frame l s e)))
    all (inl is) =
        let first = replicate s Skip ++ between l s e in
        let tail = replicate (length l - e) Skip in
        let at : i ≡ length first + (i - e) = omega (
          arith,
          length-append (replicate s Skip) (between l s e),
          length-replicate {A = Block} s Skip,
          length-between l s e le,
          order,
          behind,
        ) in
        let there : drop i (frame l s e) ≡ drop (i - e) tail =
        ap (λ (n : ℕ). drop n (first ++ tail)) at ∙ drop-append-add first tail (i - e) in
        let skips = all_drop (i - e) Skip tail (skips_all (length l - e)) in
        rw is (all_take kinds.Skip r.blocks (drop i (frame l s e))
        (subst (λ (xs : List Block). AllOf kinds.Skip xs) (sym there) skips))
    all (inr h) = let none : r.blocks ≡ 0 = omega (arith, blocks, h.1) in rw (h.0, none) refl

    stops : (r.kind ≡ kinds.Skip) ⊎ ((r.kind ≡ kinds.End) × (i ≡ length l)) → IsTrue (is_end r.kind)
        → i ≡ length (frame l s e)
    stops (inl is) ends = absurd (false≢true (rw is at ends))
    stops (inr h) ends = let long = length-frame l s e order le in omega (arith, long, h.1)

-- ---- the gatherer

pub gather_more : (l : List Block) (g : Gatherer) (r : Run) → Gathered l g → PartOf l g.at.block r
    → alike_kinds g.kind r.kind ≡ true
    → Gathered l (record { kind = g.kind; count = g.count + r.blocks; from = g.from; at = r.next })
gather_more l g r h part same =
    let k = alike_same g.kind r.kind same in
    let s : r.next.block - (g.count + r.blocks) ≡ g.at.block - g.count = omega (arith, part.next, h.behind) in
    let all : AllOf g.kind (between l (g.at.block - g.count) g.at.block ++ take r.blocks (drop g.at.block l)) =
    all_append g.kind _ _ h.all (rw k part.all) in
    record {
      behind = omega (arith, part.next, h.behind);
      within = omega (arith, part.next, part.within);
      all = rw (s, part.next, between_more l (g.at.block - g.count) g.at.block r.blocks (omega arith)) all;
    }

pub gather_still : (l : List Block) (g : Gatherer) (r : Run) → Gathered l g → PartOf l g.at.block r → r.blocks ≡ 0
    → Gathered l (record { kind = g.kind; count = g.count; from = g.from; at = r.next })
gather_still l g r h part none =
    let e : r.next.block ≡ g.at.block = omega (arith, part.next) in
    record { behind = omega (arith, h.behind); within = omega (arith, h.within); all = rw e h.all }

pub ended_by : (k j : RunKind) (l : List Block) (i q : ℕ) → alike_kinds k j ≡ false → AllOf j (take q (drop i l))
    → (0 < q) ⊎ (i ≡ length l) → Ended k (drop i l)
ended_by k j l i q other all some = parts (drop i l) refl
  where
    parts : (rest : List Block) → drop i l ≡ rest → Ended k rest
    parts [] e = tt
    parts (y ∷ rest) e = first q some all e
      where
        first : (q : ℕ) → (0 < q) ⊎ (i ≡ length l) → AllOf j (take q (drop i l)) → drop i l ≡ y ∷ rest
            → alike_kinds k (kind_of y) ≡ false
        first n (inr end) a e = absurd (let z : length (drop i l) ≡ suc (length rest) = ap length e in
            omega (arith, z, length-drop i l))
        first zero (inl s) a e = absurd (omega arith)
        first (suc n) (inl s) a e =
            let these : AllOf j (y ∷ take n rest) = rw e at a in
            ap (λ (x : RunKind). alike_kinds k x) (kind_is j y (take n rest) these) ∙ other

pub gather_begun : (l : List Block) (i : ℕ) (r : Run) → PartOf l i r
    → Gathered l (record { kind = r.kind; count = r.blocks; from = r.here; at = r.next })
gather_begun l i r part =
    let front : r.next.block - r.blocks ≡ i = omega (arith, part.next) in
    let back : r.next.block - (r.next.block - r.blocks) ≡ r.blocks = omega (arith, part.next) in
    record {
      behind = omega (arith, part.next);
      within = omega (arith, part.next, part.within);
      all = rw (back, front) part.all;
    }

pub first_closed : (l : List Block) (g : Gatherer) (r : Run) → Gathered l g → 0 < g.count → PartOf l g.at.block r
    → alike_kinds g.kind r.kind ≡ false → (0 < r.blocks) ⊎ (g.at.block ≡ length l)
    → runs (drop (g.at.block - g.count) l) ≡ between l (g.at.block - g.count) g.at.block ∷ runs (drop g.at.block l)
first_closed l g r h one part other some =
    let s = g.at.block - g.count in
    let long : length (between l s g.at.block) ≡ g.count = length-between l s g.at.block h.within
    ∙ (let z : g.at.block - (g.at.block - g.count) ≡ g.count = omega (arith, h.behind) in z) in
    let ends = ended_by g.kind r.kind l g.at.block r.blocks other part.all some in
    let whole : drop s l ≡ between l s g.at.block ++ drop g.at.block l =
    sym (take-append-drop (g.at.block - s) (drop s l)) ∙ ap (λ (xs : List Block). between l s g.at.block
    ++ xs) (drop-drop (g.at.block - s) s l ∙ ap (λ (n : ℕ). drop n l) (omega (arith, h.behind))) in
    ap (λ (xs : List Block). runs xs) whole ∙ runs_apart g.kind (between l s g.at.block) (drop g.at.block l) h.all
    (omega (arith, long, one)) ends
