-- A number as it is written, behind a name and a point.
use Rattle.std.proofs.Common.{arith, ◌≡◌, ◌≢◌, ℕ, ◌<◌, ◌^◌, List, [], ◌∷◌, ◌++◌, sym, ◌∙◌, ap, subst, true, false}
use Rattle.std.proofs.Common.{Result, Ok, Err, cond, nat_lt, get_or, drop, decimal, ltb-true, ltb-false, ne_eqb}
use Rattle.std.proofs.lemmas.List.{append_cancel_left}
use Rattle.std.proofs.lemmas.Fmt.{decimal-digits_value, first_decimal, parse-decimal}
use Rattle.std.proofs.lemmas.Str.Parse.{numerals_by_value, tells_digits}
use Rattle.std.specs.Str.Parse.{digits_value, without_leading_plus, IsNumeral, ParsesUnsigned}

-- the path of this number
abbrev with_number : List ℕ → ℕ → List ℕ
with_number front n = front ++ (46 ∷ decimal n)

-- ---- a number as it is written

pub unled : (ds : List ℕ) (n : ℕ) → nat_lt 48 (get_or ds 0 0) ≡ false → 0 < n → n < 2 ^ 32 → ds ≢ decimal n
unled ds n low some small e =
    let led : 48 < get_or (decimal n) 0 0 = first_decimal n some (omega arith) in
    let same : 48 < get_or ds 0 0 = subst (λ l. 48 < get_or l 0 0) (sym e) led in
    omega (arith, ltb-false 48 (get_or ds 0 0) low, same)

no_plus : (ds : List ℕ) → 48 < get_or ds 0 0 → without_leading_plus ds ≡ ds
no_plus [] led = absurd (omega (arith, led))
no_plus (c ∷ cs) led = ap (λ b. drop (cond b 1 0) (c ∷ cs)) (ne_eqb c 43 (λ e. omega (arith, led, e)))

pub is_written : (ds : List ℕ) (k : ℕ) → nat_lt 48 (get_or ds 0 0) ≡ true
    → (IsNumeral 10 (without_leading_plus ds) × (digits_value 10 (without_leading_plus ds) < 2 ^ 32))
    × (k ≡ digits_value 10 (without_leading_plus ds)) → (k < 2 ^ 32) × (ds ≡ decimal k)
is_written ds k led read =
    let more : 48 < get_or ds 0 0 = ltb-true 48 (get_or ds 0 0) led in
    let same = no_plus ds more in
    let own : (IsNumeral 10 ds × (digits_value 10 ds < 2 ^ 32)) × (k ≡ digits_value 10 ds) =
    subst (λ l. (IsNumeral 10 l × (digits_value 10 l < 2 ^ 32)) × (k ≡ digits_value 10 l)) same read in (
      subst (λ m. m < 2 ^ 32) (sym own.1) own.0.1,
      sym (ap decimal own.1 ∙ decimal-digits_value (numerals_by_value _ tells_digits) ds own.0.0.1 own.0.0.0
          (λ z. omega (arith, z, more)) (omega (arith, own.0.1))),
    )

abbrev IsErrAlone : {A E : Type 0} → Result A E → Type 0
IsErrAlone (Ok x) = ⊥
IsErrAlone (Err e) = Unit {0}

pub unread : {E : Type 0} (ds : List ℕ) (r : Result ℕ E) (e : E) (n : ℕ) → r ≡ Err e → n < 2 ^ 32
    → ParsesUnsigned 32 10 ds r → ds ≢ decimal n
unread ds r e n is small none same =
    subst IsErrAlone
    (parse-decimal 32 n ds (Err e) small (omega arith) same (subst (λ r. ParsesUnsigned 32 10 ds r) is none)) tt

-- ---- a number behind a name and a point

-- what stands behind a front that was taken off
pub behind_front : (front path rest : List ℕ) (n : ℕ) → path ≡ front ++ drop n path → rest ≡ drop n path
    → path ≡ front ++ rest
behind_front front path rest n e q = e ∙ ap (λ r. front ++ r) (sym q)

pub no_point : (front path rest : List ℕ) (n : ℕ) → path ≡ front ++ rest → ((tail : List ℕ) → rest ≢ 46 ∷ tail)
    → path ≢ with_number front n
no_point front path rest n e none is = none (decimal n) (append_cancel_left front rest (46 ∷ decimal n) (sym e ∙ is))
