-- The weight of a segment, block by block, and that it never falls when the segment grows.
use Rattle.std.proofs.Common.{◌≡◌, ℕ, ◌+◌, ◌≤◌, true, false, List, [], ◌∷◌, ◌++◌, length, refl, ap, ◌∙◌, append_assoc}
use Rattle.std.proofs.Common.{append-nil, arith, inl, inr, nat_le, if◌then◌else◌, leb-true, le-leb}
use Rattle.std.specs.List.{AllByRecursion, sum_by}
use Rattle.std.proofs.lemmas.Bool.{cases_Bool}
use Rattle.std.proofs.lemmas.List.Sums.{sum_by-cons}
use Rattle.abt_sparse.specs.Block.{Block, Raw, Fill, Skip}
use Rattle.abt_sparse.specs.Runs.{alike, grouped, runs, run_weight, begins_skip, without_last, without_first, weight}
use Rattle.abt_sparse.specs.Runs.{segments, Division}
use Rattle.abt_sparse.proofs.Greedy.{least}

-- the first run begins with the first block
grouped_head : (x : Block) (gs : List (List Block)) → (g : List Block) × (hs : List (List Block))
    × (grouped x gs ≡ (x ∷ g) ∷ hs)
grouped_head x [] = ([], [], refl)
grouped_head x ([] ∷ gs) = ([], gs, refl)
grouped_head x ((y ∷ g) ∷ gs) = elim (cases_Bool (alike x y)) [
  | inl e ↦ (y ∷ g, gs, rw e refl)
  | inr e ↦ ([], (y ∷ g) ∷ gs, rw e refl)
]

pub runs_head : (x : Block) (l : List Block) → (g : List Block) × (hs : List (List Block))
    × (runs (x ∷ l) ≡ (x ∷ g) ∷ hs)
runs_head x l = grouped_head x (runs l)

pub grouped-alike : (y z : Block) (g : List Block) (hs gs : List (List Block)) → gs ≡ (z ∷ g) ∷ hs → alike y z ≡ true
    → grouped y gs ≡ (y ∷ z ∷ g) ∷ hs
grouped-alike y z g hs gs v e = rw (v, e) refl

pub grouped-apart : (y z : Block) (g : List Block) (hs gs : List (List Block)) → gs ≡ (z ∷ g) ∷ hs → alike y z ≡ false
    → grouped y gs ≡ (y ∷ []) ∷ (z ∷ g) ∷ hs
grouped-apart y z g hs gs v e = rw (v, e) refl

-- ---- the same numbers, block by block

-- what a block adds to its run, and what it takes as a run of its own
abbrev pub more : ℕ → Block → ℕ
more b (Raw x) = b
more b (Fill w) = 0
more b Skip = 0

abbrev pub full : ℕ → Block → ℕ
full b y = run_weight b (y ∷ [])

abbrev pub edge : ℕ → Block → ℕ
edge b Skip = 0
edge b y = full b y

abbrev pub step : ℕ → Block → Block → ℕ
step b y z = if alike y z then more b y else full b y

abbrev pub total : ℕ → List Block → ℕ
total b [] = 0
total b (y ∷ []) = full b y
total b (y ∷ z ∷ l) = step b y z + total b (z ∷ l)

abbrev pub inner : ℕ → List Block → ℕ
inner b [] = 0
inner b (y ∷ []) = edge b y
inner b (y ∷ z ∷ l) = step b y z + inner b (z ∷ l)

abbrev pub trimmed : ℕ → List Block → ℕ
trimmed b [] = 0
trimmed b (Skip ∷ l) = trimmed b l
trimmed b (Raw x ∷ l) = inner b (Raw x ∷ l)
trimmed b (Fill w ∷ l) = inner b (Fill w ∷ l)

grow_one : (b : ℕ) (y z : Block) (g : List Block) → alike y z ≡ true
    → run_weight b (y ∷ z ∷ g) ≡ more b y + run_weight b (z ∷ g)
grow_one b (Raw x) (Raw w) g e = omega arith
grow_one b (Fill v) (Fill w) g e = refl
grow_one b Skip Skip g e = refl
grow_one b (Raw x) (Fill w) g e = absurd cc
grow_one b (Raw x) Skip g e = absurd cc
grow_one b (Fill v) (Raw w) g e = absurd cc
grow_one b (Fill v) Skip g e = absurd cc
grow_one b Skip (Raw w) g e = absurd cc
grow_one b Skip (Fill w) g e = absurd cc

same_edge : (y z : Block) (g : List Block) → alike y z ≡ true → begins_skip (y ∷ z ∷ g) ≡ begins_skip (z ∷ g)
same_edge (Raw x) (Raw w) g e = refl
same_edge (Fill v) (Fill w) g e = refl
same_edge Skip Skip g e = refl
same_edge (Raw x) (Fill w) g e = absurd cc
same_edge (Raw x) Skip g e = absurd cc
same_edge (Fill v) (Raw w) g e = absurd cc
same_edge (Fill v) Skip g e = absurd cc
same_edge Skip (Raw w) g e = absurd cc
same_edge Skip (Fill w) g e = absurd cc

skip_is : (y : Block) (g : List Block) → begins_skip (y ∷ g) ≡ true → y ≡ Skip
skip_is Skip g e = refl
skip_is (Raw x) g e = absurd cc
skip_is (Fill w) g e = absurd cc

abbrev sums : ℕ → List (List Block) → ℕ
sums b gs = sum_by (run_weight b) gs

sums-cons : (b : ℕ) (g : List Block) (gs : List (List Block)) → sums b (g ∷ gs) ≡ run_weight b g + sums b gs
sums-cons b g gs = sum_by-cons (run_weight b) g gs

grow_last : (b : ℕ) (y z : Block) (g : List Block) (gs : List (List Block)) → alike y z ≡ true
    → sums b (without_last ((y ∷ z ∷ g) ∷ gs)) ≡ more b y + sums b (without_last ((z ∷ g) ∷ gs))
grow_last b y z g [] e = elim (cases_Bool (begins_skip (z ∷ g))) [
  | inl s ↦ let t = same_edge y z g e ∙ s in rw (s, t, skip_is y (z ∷ g) t) refl
  | inr s ↦ rw (s, same_edge y z g e ∙ s) (omega (
    arith,
    sums-cons b (y ∷ z ∷ g) [],
    sums-cons b (z ∷ g) [],
    grow_one b y z g e,
  ))
]
grow_last b y z g (h ∷ gs) e =
    omega (
      arith,
      sums-cons b (y ∷ z ∷ g) (without_last (h ∷ gs)),
      sums-cons b (z ∷ g) (without_last (h ∷ gs)),
      grow_one b y z g e,
    )

inner_one : (b : ℕ) (y : Block) → sums b (without_last ((y ∷ []) ∷ [])) ≡ edge b y
inner_one b (Raw x) = omega (arith, sums-cons b (Raw x ∷ []) [])
inner_one b (Fill w) = refl
inner_one b Skip = refl

inner_is : (b : ℕ) (l : List Block) → sums b (without_last (runs l)) ≡ inner b l
inner_is b [] = refl
inner_is b (y ∷ []) = inner_one b y
inner_is b (y ∷ z ∷ l) =
    let v = runs_head z l in
    let ih : sums b (without_last ((z ∷ v.0) ∷ v.1)) ≡ inner b (z ∷ l) = rw v.2 at (inner_is b (z ∷ l)) in
    elim (cases_Bool (alike y z)) [
      | inl e ↦ rw (grouped-alike y z v.0 v.1 (runs (z ∷ l)) v.2 e, e) (omega (arith, grow_last b y z v.0 v.1 e, ih))
      | inr e ↦ rw (grouped-apart y z v.0 v.1 (runs (z ∷ l)) v.2 e, e)
          (omega (arith, sums-cons b (y ∷ []) (without_last ((z ∷ v.0) ∷ v.1)), ih))
    ]

trimmed_is : (b : ℕ) (l : List Block) → sums b (without_last (without_first (runs l))) ≡ trimmed b l
trimmed_is b [] = refl
trimmed_is b (Raw x ∷ l) = let v = runs_head (Raw x) l in rw v.2 (rw v.2 at (inner_is b (Raw x ∷ l)))
trimmed_is b (Fill w ∷ l) = let v = runs_head (Fill w) l in rw v.2 (rw v.2 at (inner_is b (Fill w ∷ l)))
trimmed_is b (Skip ∷ []) = refl
trimmed_is b (Skip ∷ Skip ∷ l) = let v = runs_head Skip l in
    rw (grouped-alike Skip Skip v.0 v.1 (runs (Skip ∷ l)) v.2 refl) (rw v.2 at (trimmed_is b (Skip ∷ l)))
trimmed_is b (Skip ∷ Raw x ∷ l) = let v = runs_head (Raw x) l in
    rw (grouped-apart Skip (Raw x) v.0 v.1 (runs (Raw x ∷ l)) v.2 refl) (rw v.2 at (inner_is b (Raw x ∷ l)))
trimmed_is b (Skip ∷ Fill w ∷ l) = let v = runs_head (Fill w) l in
    rw (grouped-apart Skip (Fill w) v.0 v.1 (runs (Fill w ∷ l)) v.2 refl) (rw v.2 at (inner_is b (Fill w ∷ l)))

pub weight_is : (b : ℕ) (l : List Block) → weight b l ≡ 52 + trimmed b l
weight_is b l = ap (λ n. 52 + n) (trimmed_is b l)

-- ---- growing

edge_more : (b : ℕ) (y x : Block) → edge b y ≤ step b y x + edge b x
edge_more b Skip x = omega arith
edge_more b (Raw y) (Raw x) = omega arith
edge_more b (Raw y) (Fill x) = omega arith
edge_more b (Raw y) Skip = omega arith
edge_more b (Fill y) (Raw x) = omega arith
edge_more b (Fill y) (Fill x) = omega arith
edge_more b (Fill y) Skip = omega arith

inner_more : (b : ℕ) (l : List Block) (x : Block) → inner b l ≤ inner b (l ++ x ∷ [])
inner_more b [] x = omega arith
inner_more b (y ∷ []) x = edge_more b y x
inner_more b (y ∷ z ∷ l) x = let ih = inner_more b (z ∷ l) x in omega arith

trimmed_more : (b : ℕ) (l : List Block) (x : Block) → trimmed b l ≤ trimmed b (l ++ x ∷ [])
trimmed_more b [] x = omega arith
trimmed_more b (Skip ∷ l) x = trimmed_more b l x
trimmed_more b (Raw y ∷ l) x = inner_more b (Raw y ∷ l) x
trimmed_more b (Fill y ∷ l) x = inner_more b (Fill y ∷ l) x

inner_front : (b : ℕ) (l : List Block) (x : Block) → inner b l ≤ inner b (x ∷ l)
inner_front b [] x = omega arith
inner_front b (z ∷ l) x = omega arith

pub trimmed-inner : (b : ℕ) (l : List Block) → trimmed b l ≤ inner b l
trimmed-inner b [] = omega arith
trimmed-inner b (Skip ∷ l) = let ih = trimmed-inner b l in let f = inner_front b l Skip in omega arith
trimmed-inner b (Raw x ∷ l) = omega arith
trimmed-inner b (Fill x ∷ l) = omega arith

trimmed_front : (b : ℕ) (l : List Block) (x : Block) → trimmed b l ≤ trimmed b (x ∷ l)
trimmed_front b l Skip = omega arith
trimmed_front b l (Raw x) = let t = trimmed-inner b l in let f = inner_front b l (Raw x) in omega arith
trimmed_front b l (Fill x) = let t = trimmed-inner b l in let f = inner_front b l (Fill x) in omega arith

pub weight_front : (b : ℕ) (a s : List Block) → weight b s ≤ weight b (a ++ s)
weight_front b [] s = omega arith
weight_front b (x ∷ a) s = let ih = weight_front b a s in
    omega (arith, weight_is b (a ++ s), weight_is b (x ∷ (a ++ s)), trimmed_front b (a ++ s) x)

pub weight_back : (b : ℕ) (c s : List Block) → weight b s ≤ weight b (s ++ c)
weight_back b [] s = rw append-nil (omega arith)
weight_back b (x ∷ c) s =
    let ih : weight b (s ++ x ∷ []) ≤ weight b (s ++ (x ∷ c)) = rw append_assoc at (weight_back b c (s ++ x ∷ [])) in
    omega (arith, weight_is b s, weight_is b (s ++ x ∷ []), trimmed_more b s x, ih)

-- no way to cut within the limit has fewer parts
fits_all : (limit b : ℕ) (parts : List (List Block)) → AllByRecursion (λ part. weight b part ≤ limit) parts
    → AllByRecursion (λ part. nat_le (weight b part) limit ≡ true) parts
fits_all limit b [] h = tt
fits_all limit b (p ∷ ps) h = (le-leb _ _ h.0, fits_all limit b ps h.1)

pub fewest : (limit b : ℕ) (l : List Block) (parts : List (List Block)) → Division limit b l parts
    → length (segments limit b l) ≤ length parts
fewest limit b l parts d =
    least (λ part. nat_le (weight b part) limit)
    (λ a s h. le-leb _ _ (omega (arith, leb-true _ _ h, weight_front b a s)))
    (λ s c h. le-leb _ _ (omega (arith, leb-true _ _ h, weight_back b c s)))
    l parts d.whole d.some (fits_all limit b parts d.each)

-- a segment weighs no less when it grows at both ends
pub weight_grows : (b : ℕ) (before l after : List Block) → weight b l ≤ weight b (before ++ l ++ after)
weight_grows b before l after = omega (arith, weight_front b before l, weight_back b after (before ++ l))

single : (b : ℕ) (x : Block) → 4 ≤ b → trimmed b (x ∷ []) ≤ 12 + b
single b Skip h = omega arith
single b (Raw x) h = omega arith
single b (Fill x) h = omega (arith, h)

pub one_weighs : (b : ℕ) (x : Block) → 4 ≤ b → weight b (x ∷ []) ≤ 64 + b
one_weighs b x four = omega (arith, weight_is b (x ∷ []), single b x four)

-- one block fits in any limit that is allowed
pub one_fits : (limit b : ℕ) (x : Block) → 4 ≤ b → 64 + b ≤ limit → nat_le (weight b (x ∷ [])) limit ≡ true
one_fits limit b x four h = le-leb _ _ (omega (arith, h, one_weighs b x four))
