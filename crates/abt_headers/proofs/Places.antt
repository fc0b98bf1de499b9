-- How sections are written one after another.
use Rattle.std.proofs.Common.{◌≡◌, ℕ, zero, suc, ◌+◌, ◌-◌, ◌*◌, ◌<◌, ◌≤◌, List, [], ◌∷◌, ◌++◌, length, take, set, refl}
use Rattle.std.proofs.Common.{ap, arith, nat_lt, inl, inr}
use Rattle.std.proofs.Math.Nat.{mul-le-mul_right, div-mul-le_self, lt-div-mul-add}
use Rattle.std.proofs.lemmas.Bool.{cases_Bool, ltb-true, ltb-false}
use Rattle.std.proofs.lemmas.Grind.{div_ceil_times}
use Rattle.std.specs.Int.{div_ceil}
use Rattle.abt_headers.specs.declared.sections.Section.{Section}
use Rattle.abt_headers.specs.declared.sections.SectionPlace.{SectionPlace}
use Rattle.abt_headers.specs.Page.{pages}
use Rattle.abt_headers.specs.Places.{section_place, places_from}

pub enough_pages : (n p : ℕ) → 0 < p → n ≤ pages n p * p
enough_pages n p h = omega (arith, lt-div-mul-add {a = n + (p - 1)} {b = p} h)

pub least_pages : (n p : ℕ) → 0 < p → pages n p * p < n + p
least_pages n p h = omega (arith, div-mul-le_self (n + (p - 1)) p)

-- a number of pages is settled by its two bounds
one_count : (q r p n : ℕ) → n ≤ q * p → q * p < n + p → n ≤ r * p → r * p < n + p → q ≡ r
one_count q r p n a b c d =
    elim (cases_Bool (nat_lt q r)) [
      | inl t ↦ absurd (apart q r p n (ltb-true _ _ t) a d)
      | inr t ↦ same q r p n
          (ltb-false _ _ t) b c
    ]
  where
    apart : (q r p n : ℕ) → q < r → n ≤ q * p → r * p < n + p → ⊥
    apart q r p n h a d = let m : (q + 1) * p ≤ r * p = mul-le-mul_right p (omega arith) in
        let e : (q + 1) * p ≡ q * p + p = omega arith in omega arith

    same : (q r p n : ℕ) → r ≤ q → q * p < n + p → n ≤ r * p → q ≡ r
    same q r p n h b c = elim (cases_Bool (nat_lt r q)) [
      | inl t ↦ absurd
          (apart r q p n (ltb-true _ _ t) c b)
      | inr t ↦ let k : q ≤ r = ltb-false _ _ t in omega arith
    ]

pub ceil_pages : (n p : ℕ) → 0 < p → div_ceil n p ≡ pages n p
ceil_pages n p h = let b = div_ceil_times n p h in
    one_count (div_ceil n p) (pages n p) p n b.0 b.1 (enough_pages n p h) (least_pages n p h)

-- the places of the first sections are the first places
pub first_places : (p k : ℕ) (ss rest : List (Section × ℕ))
    → take (length ss) (places_from p k (ss ++ rest)) ≡ places_from p k ss
first_places p k [] rest = refl
first_places p k (s ∷ ss) rest =
    ap (λ (l : List SectionPlace). section_place p k s ∷ l) (first_places p (k + pages s.1 p) ss rest)
