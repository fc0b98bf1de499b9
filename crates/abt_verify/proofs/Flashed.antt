-- Verifying and flashing.
use Rattle.std.proofs.Common.{◌≡◌, ℕ, zero, suc, ◌<◌, ◌≤◌, ◌⊎◌, inl, inr, true, false, List, [], ◌∷◌, length, Option}
use Rattle.std.proofs.Common.{Some, None, refl, sym, ap, ◌∙◌, arith, nat_eq, nat_lt, ltb-true, ltb-false, eqb-true}
use Rattle.std.proofs.Common.{eq-eqb}
use Rattle.std.specs.Prelude.{slice_get}
use Rattle.std.proofs.lemmas.Bool.{cases_Bool}
use Rattle.abt_sparse.specs.Block.{over}
use Rattle.abt_verify.specs.Standing.{FirstDiffers, Stands, StandsAt}
use Rattle.abt_verify.proofs.Said.{none_some, stands_nothing}

some_same : (x y : ℕ) → (let a : Option ℕ = Some x in let b : Option ℕ = Some y in a ≡ b) → x ≡ y
some_same x y e = cc

behind : (p : List ℕ) (y : ℕ) (c : Option ℕ) (cs : List (Option ℕ)) → Stands (y ∷ p) (c ∷ cs) → Stands p cs
behind p y c cs h = λ i x e. h (suc i) x e

-- where cells stand, writing them changes nothing
pub unchanged : (p : List ℕ) (cs : List (Option ℕ)) → Stands p cs → over p cs ≡ p
unchanged [] cs h = refl
unchanged (y ∷ p) [] h = refl
unchanged (y ∷ p) (None ∷ cs) h = ap (λ (l : List ℕ). y ∷ l) (unchanged p cs (behind p y None cs h))
unchanged (y ∷ p) (Some x ∷ cs) h =
    let same : y ≡ x = some_same y x (h 0 x refl) in
    ap (λ (b : ℕ). b ∷ over p cs) (sym same) ∙ ap (λ (l : List ℕ). y ∷ l) (unchanged p cs (behind p y (Some x) cs h))

-- once they are written, they stand
pub flashed_stands : (p : List ℕ) (cs : List (Option ℕ)) → length cs ≤ length p → Stands (over p cs) cs
flashed_stands p [] le = stands_nothing (over p [])
flashed_stands [] (c ∷ cs) le = absurd (omega (arith, le))
flashed_stands (y ∷ p) (c ∷ cs) le = each c (flashed_stands p cs (omega (arith, le))) where
  each : (c : Option ℕ) → Stands (over p cs) cs → Stands (over (y ∷ p) (c ∷ cs)) (c ∷ cs)
  each None h zero x e = absurd (none_some x e)
  each None h (suc i) x e = h i x e
  each (Some b) h zero x e = e
  each (Some b) h (suc i) x e = h i x e

-- they don't both
pub not_both : (p : List ℕ) (cs : List (Option ℕ)) (n : ℕ) → Stands p cs → FirstDiffers p cs n → ⊥
not_both p cs n h f = f.differs (h n f.byte f.said)

not_before : (p : List ℕ) (cs : List (Option ℕ)) (m n : ℕ) → FirstDiffers p cs m → FirstDiffers p cs n → m < n → ⊥
not_before p cs m n f g lt = f.differs (g.before m lt f.byte f.said)

-- and one byte alone is the first
pub one_first : (p : List ℕ) (cs : List (Option ℕ)) (m n : ℕ) → FirstDiffers p cs m → FirstDiffers p cs n → m ≡ n
one_first p cs m n f g = elim (cases_Bool (nat_lt m n)) [
  | inl t ↦ absurd (not_before p cs m n f g (ltb-true m n t))
  | inr t ↦ elim (cases_Bool (nat_lt n m)) [
    | inl u ↦ absurd (not_before p cs n m g f (ltb-true n m u))
    | inr u ↦ let a = ltb-false m n t in let b = ltb-false n m u in omega (arith, a, b)
  ]
]

-- ---- one of the two

-- the first byte is right
stands_cons : (p q : List ℕ) (c : Option ℕ) (cs : List (Option ℕ)) → StandsAt p (c ∷ cs) 0
    → ((i : ℕ) → slice_get p (suc i) ≡ slice_get q i) → Stands q cs → Stands p (c ∷ cs)
stands_cons p q c cs here next h zero x e = here x e
stands_cons p q c cs here next h (suc i) x e = next i ∙ h i x e

first_cons : (p q : List ℕ) (c : Option ℕ) (cs : List (Option ℕ)) (n : ℕ) → StandsAt p (c ∷ cs) 0
    → ((i : ℕ) → slice_get p (suc i) ≡ slice_get q i) → FirstDiffers q cs n → FirstDiffers p (c ∷ cs) (suc n)
first_cons p q c cs n here next f = record {
  byte = f.byte;
  said = f.said;
  differs = λ e. f.differs (sym (next n) ∙ e);
  before = below;
} where
  below : (i : ℕ) → i < suc n → StandsAt p (c ∷ cs) i
  below zero lt x e = here x e
  below (suc i) lt x e = next i ∙ f.before i (omega (arith, lt)) x e

found_cons : (p q : List ℕ) (c : Option ℕ) (cs : List (Option ℕ)) → StandsAt p (c ∷ cs) 0
    → ((i : ℕ) → slice_get p (suc i) ≡ slice_get q i) → Stands q cs ⊎ ((n : ℕ) × FirstDiffers q cs n)
    → Stands p (c ∷ cs) ⊎ ((n : ℕ) × FirstDiffers p (c ∷ cs) n)
found_cons p q c cs here next (inl h) = inl (stands_cons p q c cs here next h)
found_cons p q c cs here next (inr f) = inr (suc f.0, first_cons p q c cs f.0 here next f.1)

first_here : (p : List ℕ) (b : ℕ) (cs : List (Option ℕ)) → (slice_get p 0 ≡ Some b → ⊥) → FirstDiffers p (Some b ∷ cs) 0
first_here p b cs other = record { byte = b; said = refl; differs = other; before = λ i lt. absurd (omega (arith, lt)) }

past_end : (i : ℕ) → slice_get {X = ℕ} [] (suc i) ≡ slice_get [] i
past_end zero = refl
past_end (suc i) = refl

pub either : (p : List ℕ) (cs : List (Option ℕ)) → Stands p cs ⊎ ((n : ℕ) × FirstDiffers p cs n)
either p [] = inl (stands_nothing p)
either [] (None ∷ cs) = found_cons [] [] None cs (λ x e. absurd (none_some x e)) past_end (either [] cs)
either [] (Some b ∷ cs) = inr (0, first_here [] b cs (λ e. none_some b e))
either (y ∷ p) (None ∷ cs) = found_cons (y ∷ p) p None cs (λ x e. absurd (none_some x e)) (λ i. refl) (either p cs)
either (y ∷ p) (Some b ∷ cs) = elim (cases_Bool (nat_eq y b)) [
  | inl t ↦ found_cons (y ∷ p) p (Some b) cs (λ x e. ap (λ (z : ℕ). Some z) (eqb-true y b t) ∙ e) (λ i. refl)
      (either p cs)
  | inr t ↦ inr (
    0,
    first_here (y ∷ p) b cs (λ e. let same : y ≡ b = some_same y b e in
        absurd (let z : nat_eq y b ≡ true = eq-eqb y b same in let u : true ≡ false = sym z ∙ t in cc)),
  )
]
