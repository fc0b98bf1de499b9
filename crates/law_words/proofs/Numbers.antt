-- A number in decimal digits is read as that number.
use Rattle.std.proofs.Common.{inl, inr, ◌≡◌, ◌<◌, ℕ, Bool, true, false, List, [], ◌∷◌, ◌++◌, length, slice_index, refl}
use Rattle.std.proofs.Common.{sym, ap, subst, ◌∙◌, arith}
use Rattle.std.proofs.lemmas.Bool.{true≢false}
use Rattle.words_values.specs.declared.rows.Value.{Value}
use Rattle.words_values.specs.declared.rows.Value.TheVariants as values
use Rattle.words_values.specs.NumberWord.{IsNumber, IsRead, IsScale}
use Rattle.cmd_common_fields.specs.OsWord.{IsNumberWord}
use Rattle.law_pack.proofs.PackedCuts.{lacks_high}

letter_behind : (digits rest : List ℕ) (letter : ℕ) → slice_index (digits ++ (letter ∷ rest)) (length digits) ≡ letter
letter_behind [] rest letter = refl
letter_behind (c ∷ digits) rest letter = letter_behind digits rest letter

digits_are_before : (digits rest : List ℕ) (letter : ℕ) → length digits < length (digits ++ (letter ∷ rest))
digits_are_before [] rest letter = omega arith
digits_are_before (c ∷ digits) rest letter =
    let less = digits_are_before digits rest letter in
    omega (arith, less)

-- no letter stands in a number
no_letter : (word digits rest : List ℕ) (letter n : ℕ) → 57 < letter → word ≡ digits ++ (letter ∷ rest)
    → IsNumberWord word n → ⊥
no_letter word digits rest letter n high parts is =
    let there : length digits < length word =
    subst (λ w. length digits < length w) (sym parts) (digits_are_before digits rest letter) in
    lacks_high letter word n high is (length digits) there
    (ap (λ w. slice_index w (length digits)) parts ∙ letter_behind digits rest letter)

scale_is_high : (letter n : ℕ) → IsScale letter n → 57 < letter
scale_is_high letter n (inl k) = omega (arith, k.0)
scale_is_high letter n (inr (inl m)) = omega (arith, m.0)
scale_is_high letter n (inr (inr g)) = omega (arith, g.0)

pub same_number : (word : List ℕ) (n m : ℕ) → IsNumber word n → IsNumberWord word m → n ≡ m
same_number word n m (inl (inl d)) is = sym d.value ∙ is.value
same_number word n m (inl (inr s)) is =
    absurd (no_letter word s.digits [] s.letter m (scale_is_high s.letter s.scale s.is_scale) s.parts is)
same_number word n m (inr h) is = absurd (no_letter word (48 ∷ []) h.digits 120 m (omega arith) h.parts is)

-- kinds of values that have a number of 32 bits, or of 64
abbrev pub has_number : Value → Bool
has_number values.Number = true
has_number values.LongNumber = true
has_number (values.Count least) = true
has_number value = false

pub read_number : (value : Value) (word : List ℕ) (n m : ℕ) → has_number value ≡ true → IsRead value word n
    → IsNumberWord word m → n ≡ m
read_number values.Number word n m h r is = same_number word n m r.0 is
read_number values.LongNumber word n m h r is = same_number word n m r.0 is
read_number (values.Count least) word n m h r is = sym r.0.value ∙ is.value
read_number values.File word n m h r is = absurd (true≢false (sym h))
read_number values.Text word n m h r is = absurd (true≢false (sym h))
read_number values.CommandLine word n m h r is = absurd (true≢false (sym h))
read_number values.Os word n m h r is = absurd (true≢false (sym h))
read_number (values.Name names) word n m h r is = absurd (true≢false (sym h))
read_number values.IsGiven word n m h r is = absurd (true≢false (sym h))
read_number values.PythonNumber word n m h r is = absurd (true≢false (sym h))
read_number values.LongPythonNumber word n m h r is = absurd (true≢false (sym h))
read_number values.OsVersion word n m h r is = absurd (true≢false (sym h))
read_number values.PatchLevel word n m h r is = absurd (true≢false (sym h))
read_number values.NotTaken word n m h r is = absurd (true≢false (sym h))
