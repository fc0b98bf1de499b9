-- The argument of `--os`.
use Rattle.std.specs.Prelude.{◌≡◌, ◌<◌, ℕ, true, List, ◌∷◌, ◌++◌, length}
use Rattle.std.specs.Str.{all_ascii_digits}
use Rattle.std.specs.Str.Parse.{digits_value}
use Rattle.abt_headers.specs.declared.os.OsParts.{OsParts}

-- digits alone, at least one, and the number that they write
pub record IsNumberWord (word : List ℕ) (n : ℕ) : Type 0 where
  pub digits : all_ascii_digits word ≡ true
  pub some : 0 < length word
  pub value : digits_value 10 word ≡ n

-- A.B.C-YYYY-MM
pub record IsOsWord (word : List ℕ) (os : OsParts) : Type 0 where
  pub a : List ℕ
  pub b : List ℕ
  pub c : List ℕ
  pub year : List ℕ
  pub month : List ℕ
  pub parts : word ≡ a ++ (46 ∷ (b ++ (46 ∷ (c ++ (45 ∷ (year ++ (45 ∷ month)))))))
  pub is_a : IsNumberWord a os.a
  pub is_b : IsNumberWord b os.b
  pub is_c : IsNumberWord c os.c
  pub is_year : IsNumberWord year os.year
  pub is_month : IsNumberWord month os.month
  pub four : length year ≡ 4
  pub two : length month ≡ 2
