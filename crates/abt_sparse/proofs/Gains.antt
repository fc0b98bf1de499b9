-- The weight from left to right, as a cutter adds it up: what each block adds after those before it.
use Rattle.std.proofs.Common.{◌≡◌, ℕ, ◌+◌, List, [], ◌∷◌, ◌++◌, refl, arith, inl, inr}
use Rattle.std.proofs.lemmas.Bool.{cases_Bool}
use Rattle.abt_sparse.specs.Block.{Block, Raw, Fill, Skip}
use Rattle.abt_sparse.specs.Runs.{alike, weight}
use Rattle.abt_sparse.specs.Gains.{Behind, Fresh, After, moved, gain, gains, behind_all}
use Rattle.abt_sparse.proofs.Weights.{edge, step, inner, trimmed, weight_is}

-- a list and then another
pub gains-append : (b : ℕ) (s : Behind) (l m : List Block)
    → gains b s (l ++ m) ≡ gains b s l + gains b (behind_all s l) m
gains-append b s [] m = omega arith
gains-append b s (x ∷ l) m = omega (arith, gains-append b (moved s x) l m)

one : (b : ℕ) (y z : Block) → step b y z + edge b z ≡ edge b y + gain b (After y) z
one b Skip Skip = refl
one b Skip (Raw z) = omega arith
one b Skip (Fill z) = omega arith
one b (Raw y) Skip = omega arith
one b (Raw y) (Raw z) = omega arith
one b (Raw y) (Fill z) = omega arith
one b (Fill y) Skip = omega arith
one b (Fill y) (Raw z) = omega arith
one b (Fill y) (Fill z) = elim (cases_Bool (alike (Fill y) (Fill z))) [ inl e ↦ rw e refl | inr e ↦ rw e refl ]

inner_gains : (b : ℕ) (y : Block) (l : List Block) → inner b (y ∷ l) ≡ edge b y + gains b (After y) l
inner_gains b y [] = omega arith
inner_gains b y (z ∷ l) = omega (arith, inner_gains b z l, one b y z)

trimmed_gains : (b : ℕ) (l : List Block) → trimmed b l ≡ gains b Fresh l
trimmed_gains b [] = refl
trimmed_gains b (Skip ∷ l) = omega (arith, trimmed_gains b l)
trimmed_gains b (Raw x ∷ l) = omega (arith, inner_gains b (Raw x) l)
trimmed_gains b (Fill x ∷ l) = omega (arith, inner_gains b (Fill x) l)

-- the weight is what the blocks add, one after the other
pub weight_gains : (b : ℕ) (l : List Block) → weight b l ≡ 52 + gains b Fresh l
weight_gains b l = omega (arith, weight_is b l, trimmed_gains b l)
