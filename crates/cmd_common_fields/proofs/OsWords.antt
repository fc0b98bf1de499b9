-- A word of `--os`, cut at its dots and hyphens.
use Rattle.std.proofs.Common.{rules, ◌≡◌, ◌≢◌, ℕ, ◌<◌, ◌^◌, true, List, ◌∷◌, ◌++◌, Option, Some, None, Result, Ok, Err}
use Rattle.std.proofs.Common.{MatchOption, IfSome, IfOk, IsOk, IsOkAnd, Bor, length, slice_index, sym, ap, subst, ◌∙◌}
use Rattle.std.proofs.Common.{arith}
use Rattle.std.proofs.lemmas.Bool.{false≢true}
use Rattle.std.proofs.lemmas.Str.Pattern.{IsSplitOnceResult, split_after}
use Rattle.std.proofs.lemmas.Str.Parse.{IsNumeralModel, numerals_by_value, not_in_digits, parse_plain}
use Rattle.std.specs.Int.{IsInRange}
use Rattle.std.specs.Result.{OkIff, result_ok}
use Rattle.std.specs.Str.{all_ascii_digits}
use Rattle.std.specs.Str.Parse.{ParsesUnsigned, digits_value}
use Rattle.abt_headers.specs.declared.os.OsParts.{OsParts}
use Rattle.abt_headers.specs.declared.os.OsVersion.{OsVersion}
use Rattle.cmd_common_fields.specs.OsWord.{IsNumberWord, IsOsWord}

own : IsNumeralModel (λ (ds : List ℕ). all_ascii_digits ds ≡ true) (digits_value 10)
own = numerals_by_value _ (search rules)

-- ---- a number

abbrev Plain : {E : Type 0} → List ℕ → Result ℕ E → Type 0
Plain bs r = OkIff r ((all_ascii_digits bs ≡ true) × (0 < length bs) × (digits_value 10 bs < 2 ^ 32))
    (digits_value 10 bs)

-- what is parsed and begins with no sign
plain : {E : Type 0} → (bs : List ℕ) (r : Result ℕ E) → ParsesUnsigned 32 10 bs r → slice_index bs 0 ≢ 43 → Plain bs r
plain bs r h no_sign = parse_plain own 32 bs r h no_sign

value_of : {E : Type 0} → (bs : List ℕ) (r : Result ℕ E) → Plain bs r → IfSome (result_ok r) (λ n. IsNumberWord bs n)
value_of bs (Ok x) h = record { digits = h.0.0; some = h.0.1; value = sym h.1 }
value_of bs (Err e) h = tt

accepts_of : {E : Type 0} → (bs : List ℕ) (r : Result ℕ E) → Plain bs r → (n : ℕ) → IsNumberWord bs n → n < 2 ^ 32
    → result_ok r ≡ Some n
accepts_of bs (Ok x) h n w small = ap Some (h.1 ∙ w.value)
accepts_of bs (Err e) h n w small = absurd (h (w.digits, w.some, subst (λ (k : ℕ). k < 2 ^ 32) (sym w.value) small))

pub number_value : {E : Type 0} → (bs : List ℕ) (r : Result ℕ E) (o : Option ℕ) → ParsesUnsigned 32 10 bs r
    → slice_index bs 0 ≢ 43
    → o ≡ result_ok r → IfSome o (λ n. IsNumberWord bs n)
number_value bs r o h no_sign e = subst (λ (p : Option ℕ). IfSome p (λ n. IsNumberWord bs n)) (sym e)
    (value_of bs r (plain bs r h no_sign))

pub number_accepts : {E : Type 0} → (bs : List ℕ) (r : Result ℕ E) (o : Option ℕ) → ParsesUnsigned 32 10 bs r
    → slice_index bs 0 ≢ 43
    → o ≡ result_ok r → (n : ℕ) → IsNumberWord bs n → n < 2 ^ 32 → o ≡ Some n
number_accepts bs r o h no_sign e n w small = e ∙ accepts_of bs r (plain bs r h no_sign) n w small

-- ---- cutting

-- digits hold no mark, so a cut at the first mark is a cut behind them
cut : (mark : ℕ) (word front back : List ℕ) (n : ℕ) (r : Option (Bor (List ℕ) × Bor (List ℕ))) → mark < 48
    → IsNumberWord front n
    → word ≡ front ++ (mark ∷ back) → IsSplitOnceResult mark word r
    → MatchOption r ⊥ (λ x. (x.0.now ≡ front) × (x.1.now ≡ back))
cut mark word front back n r low w e h =
    split_after mark word front back r h (omega arith) e
    (not_in_digits own front mark w.digits (λ (q : IsInRange 48 57 mark). omega (arith, q.0)))

module _ (word : List ℕ) (os : OsParts) (p : IsOsWord word os) where
  abbrev pub after_c : List ℕ
  after_c = p.year ++ (45 ∷ p.month)

  abbrev pub after_b : List ℕ
  after_b = p.c ++ (45 ∷ after_c)

  abbrev pub after_a : List ℕ
  after_a = p.b ++ (46 ∷ after_b)

  pub cut_a : (r : Option (Bor (List ℕ) × Bor (List ℕ))) → IsSplitOnceResult 46 word r
      → MatchOption r ⊥ (λ x. (x.0.now ≡ p.a) × (x.1.now ≡ after_a))
  cut_a r h = cut 46 word p.a after_a os.a r (omega arith) p.is_a p.parts h

  pub cut_b : (r : Option (Bor (List ℕ) × Bor (List ℕ))) (rest : List ℕ) → rest ≡ after_a → IsSplitOnceResult 46 rest r
      → MatchOption r ⊥ (λ x. (x.0.now ≡ p.b) × (x.1.now ≡ after_b))
  cut_b r rest e h = cut 46 rest p.b after_b os.b r (omega arith) p.is_b e h

  pub cut_c : (r : Option (Bor (List ℕ) × Bor (List ℕ))) (rest : List ℕ) → rest ≡ after_b → IsSplitOnceResult 45 rest r
      → MatchOption r ⊥ (λ x. (x.0.now ≡ p.c) × (x.1.now ≡ after_c))
  cut_c r rest e h = cut 45 rest p.c after_c os.c r (omega arith) p.is_c e h

  pub cut_year : (r : Option (Bor (List ℕ) × Bor (List ℕ))) (rest : List ℕ) → rest ≡ after_c
      → IsSplitOnceResult 45 rest r
      → MatchOption r ⊥ (λ x. (x.0.now ≡ p.year) × (x.1.now ≡ p.month))
  cut_year r rest e h = cut 45 rest p.year p.month os.year r (omega arith) p.is_year e h

-- a word that is another one
pub same_word : (one other : List ℕ) (n : ℕ) → one ≡ other → IsNumberWord other n → IsNumberWord one n
same_word one other n e w = subst (λ (x : List ℕ). IsNumberWord x n) (sym e) w

pub some_is : (o : Option ℕ) (a b : ℕ) → o ≡ Some a → o ≡ Some b → a ≡ b
some_is o a b e f = search (rules, sym e ∙ f)

pub none_is : (n : ℕ) → None ≡ Some n → ⊥
none_is n e = search (rules, e)

-- what is Ok and has a number
pub ok_with : {E : Type 0} → (r : Result OsVersion E) (n m : ℕ) → IsOk r → IfOk r (λ v. v.number ≡ n) → n ≡ m
    → IsOkAnd r (λ v. v.number ≡ m)
ok_with (Ok x) n m k h e = h ∙ e
ok_with (Err x) n m k h e = absurd (false≢true k)
