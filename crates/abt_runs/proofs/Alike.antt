-- Blocks of one class, and runs of them.
use Rattle.std.proofs.Common.{◌≡◌, ℕ, ◌<◌, true, false, List, [], ◌∷◌, ◌++◌, length, replicate, refl, sym, ap, ◌∙◌}
use Rattle.std.proofs.Common.{arith, bytes_eq}
use Rattle.std.specs.List.{AllByRecursion}
use Rattle.abt_sparse.specs.Block.{Block, Raw, Fill, Skip}
use Rattle.abt_sparse.specs.Runs.{runs, alike}
use Rattle.abt_sparse.proofs.Weights.{runs_head, grouped-apart, grouped-alike}
use Rattle.abt_sparse.proofs.RunLaws.{bytes_same, same_bytes}
use Rattle.abt_runs.specs.Part.{IsRaw, AllOf, is_end}
use Rattle.abt_runs.specs.Whole.{alike_kinds}
use Rattle.abt_runs.specs.declared.part.RunKind.{RunKind}
use Rattle.abt_runs.specs.declared.part.RunKind.TheVariants as kinds

abbrev pub kind_of : Block → RunKind
kind_of (Raw x) = kinds.Raw
kind_of (Fill w) = kinds.Fill w
kind_of Skip = kinds.Skip

pub kind_is : (k : RunKind) (x : Block) (xs : List Block) → AllOf k (x ∷ xs) → kind_of x ≡ k
kind_is kinds.Raw (Raw x) xs h = refl
kind_is kinds.Raw (Fill w) xs h = absurd h.0
kind_is kinds.Raw Skip xs h = absurd h.0
kind_is (kinds.Fill w) x xs h = let e : x ≡ Fill w = cc in rw e refl
kind_is kinds.Skip x xs h = let e : x ≡ Skip = cc in rw e refl
kind_is kinds.End x xs h = absurd cc

pub alike_is : (x y : Block) → alike x y ≡ alike_kinds (kind_of x) (kind_of y)
alike_is (Raw x) (Raw y) = refl
alike_is (Raw x) (Fill y) = refl
alike_is (Raw x) Skip = refl
alike_is (Fill x) (Raw y) = refl
alike_is (Fill x) (Fill y) = refl
alike_is (Fill x) Skip = refl
alike_is Skip (Raw y) = refl
alike_is Skip (Fill y) = refl
alike_is Skip Skip = refl

pub self_alike : (k : RunKind) (x : Block) → kind_of x ≡ k → alike_kinds k k ≡ true
self_alike kinds.Raw x e = refl
self_alike (kinds.Fill w) x e = bytes_same w
self_alike kinds.Skip x e = refl
self_alike kinds.End (Raw x) e = absurd cc
self_alike kinds.End (Fill x) e = absurd cc
self_alike kinds.End Skip e = absurd cc

pub tail_of_all : (k : RunKind) (x : Block) (xs : List Block) → AllOf k (x ∷ xs) → AllOf k xs
tail_of_all kinds.Raw x xs h = h.1
tail_of_all (kinds.Fill w) x xs h = cc
tail_of_all kinds.Skip x xs h = cc
tail_of_all kinds.End x xs h = absurd cc

-- nothing follows, or a block of another class
abbrev pub Ended : RunKind → List Block → Type 0
Ended k [] = Unit {0}
Ended k (y ∷ l) = alike_kinds k (kind_of y) ≡ false

two_alike : (k : RunKind) (x y : Block) (xs : List Block) → AllOf k (x ∷ y ∷ xs) → alike x y ≡ true
two_alike k x y xs h =
    let kx = kind_is k x (y ∷ xs) h in
    let ky = kind_is k y xs (tail_of_all k x (y ∷ xs) h) in
    alike_is x y ∙ ap (λ (j : RunKind). alike_kinds j (kind_of y)) kx ∙ ap (λ (j : RunKind). alike_kinds k j) ky
    ∙ self_alike k x kx

-- a run that has ended is the first
pub runs_apart : (k : RunKind) (xs rest : List Block) → AllOf k xs → 0 < length xs → Ended k rest
    → runs (xs ++ rest) ≡ xs ∷ runs rest
runs_apart k [] rest h some e = absurd (omega arith)
runs_apart k (x ∷ []) [] h some e = refl
runs_apart k (x ∷ []) (y ∷ l) h some e =
    let v = runs_head y l in
    let a : alike x y ≡ false = alike_is x y ∙ ap (λ (j : RunKind). alike_kinds j (kind_of y)) (kind_is k x [] h) ∙ e in
    grouped-apart x y v.0 v.1 (runs (y ∷ l)) v.2 a ∙ ap (λ (gs : List (List Block)). (x ∷ []) ∷ gs) (sym v.2)
runs_apart k (x ∷ y ∷ xs) rest h some e =
    grouped-alike x y xs (runs rest) (runs (y ∷ xs ++ rest)) (runs_apart k (y ∷ xs) rest (tail_of_all k x (y ∷ xs) h)
    (omega arith) e) (two_alike k x y xs h)

-- and one that may go on begins it
pub runs_front : (k : RunKind) (xs rest : List Block) → AllOf k xs → 0 < length xs → (g : List Block)
    × (gs : List (List Block)) × (runs (xs ++ rest) ≡ (xs ++ g) ∷ gs)
runs_front k [] rest h some = absurd (omega arith)
runs_front k (x ∷ []) rest h some = runs_head x rest
runs_front k (x ∷ y ∷ xs) rest h some =
    let v = runs_front k (y ∷ xs) rest (tail_of_all k x (y ∷ xs) h) (omega arith) in
    (v.0, v.1, grouped-alike x y (xs ++ v.0) v.1 (runs (y ∷ xs ++ rest)) v.2 (two_alike k x y xs h))

raws_append : (xs ys : List Block) → AllByRecursion IsRaw xs → AllByRecursion IsRaw ys → AllByRecursion IsRaw (xs ++ ys)
raws_append [] ys h k = k
raws_append (x ∷ xs) ys h k = (h.0, raws_append xs ys h.1 k)

same_append : (x : Block) (xs ys : List Block) → xs ≡ replicate (length xs) x → ys ≡ replicate (length ys) x
    → xs ++ ys ≡ replicate (length (xs ++ ys)) x
same_append x [] ys h k = k
same_append x (y ∷ xs) ys h k =
    let e : y ≡ x = cc in
    let t : xs ≡ replicate (length xs) x = cc in
    let r = same_append x xs ys t k in
    cc

same_word : (v w : List ℕ) → bytes_eq v w ≡ true → kinds.Fill v ≡ kinds.Fill w
same_word v w e = ap kinds.Fill (same_bytes v w e)

pub alike_same : (k j : RunKind) → alike_kinds k j ≡ true → k ≡ j
alike_same kinds.Raw kinds.Raw e = refl
alike_same kinds.Raw (kinds.Fill w) e = absurd cc
alike_same kinds.Raw kinds.Skip e = absurd cc
alike_same kinds.Raw kinds.End e = absurd cc
alike_same (kinds.Fill v) kinds.Raw e = absurd cc
alike_same (kinds.Fill v) (kinds.Fill w) e = same_word v w e
alike_same (kinds.Fill v) kinds.Skip e = absurd cc
alike_same (kinds.Fill v) kinds.End e = absurd cc
alike_same kinds.Skip kinds.Raw e = absurd cc
alike_same kinds.Skip (kinds.Fill w) e = absurd cc
alike_same kinds.Skip kinds.Skip e = refl
alike_same kinds.Skip kinds.End e = absurd cc
alike_same kinds.End j e = absurd cc

pub all_append : (k : RunKind) (xs ys : List Block) → AllOf k xs → AllOf k ys → AllOf k (xs ++ ys)
all_append kinds.Raw xs ys h g = raws_append xs ys h g
all_append (kinds.Fill w) xs ys h g = same_append (Fill w) xs ys h g
all_append kinds.Skip xs ys h g = same_append Skip xs ys h g
all_append kinds.End xs ys h g = rw h g

pub not_end_some : (k : RunKind) (xs : List Block) → AllOf k xs → 0 < length xs → is_end k ≡ false
not_end_some kinds.Raw xs h some = refl
not_end_some (kinds.Fill w) xs h some = refl
not_end_some kinds.Skip xs h some = refl
not_end_some kinds.End xs h some = absurd (let e : length xs ≡ 0 = ap length h in omega arith)
