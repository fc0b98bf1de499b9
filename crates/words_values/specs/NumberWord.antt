-- Words that encode a number: `4096`, `0x1000`, `4K`.
use Rattle.std.specs.Prelude.{◌≡◌, ℕ, ◌*◌, ◌<◌, ◌^◌, List, [], ◌∷◌, ◌++◌, ◌⊎◌, Some, codes}
use Rattle.words_values.specs.declared.rows.Value.{Value}
use Rattle.words_values.specs.declared.rows.Value.TheVariants.{File, Number, LongNumber, Count, Text, CommandLine, Os}
use Rattle.words_values.specs.declared.rows.Value.TheVariants.{Name, IsGiven, PythonNumber, LongPythonNumber, OsVersion}
use Rattle.words_values.specs.declared.rows.Value.TheVariants.{PatchLevel, NotTaken}
use Rattle.words_values.specs.AospNumber.{os_version, patch_level, python_number}
use Rattle.std.specs.Str.Parse.{IsNumeral, digits_value}

-- digits of a radix alone, at least one, and the number that they encode
pub record IsDigits (radix : ℕ) (word : List ℕ) (n : ℕ) : Type 0 where
  pub digits : IsNumeral radix word
  pub value : digits_value radix word ≡ n

-- a letter after the digits, and the factor that it means: K, M and G
abbrev pub IsScale : ℕ → ℕ → Type 0
IsScale letter n = ((letter ≡ 75) × (n ≡ 1024))
    ⊎ (((letter ≡ 77) × (n ≡ 1048576)) ⊎ ((letter ≡ 71) × (n ≡ 1073741824)))

pub record IsScaled (word : List ℕ) (n : ℕ) : Type 0 where
  pub digits : List ℕ
  pub letter : ℕ
  pub count : ℕ
  pub scale : ℕ
  pub parts : word ≡ digits ++ (letter ∷ [])
  pub is_scale : IsScale letter scale
  pub is_count : IsDigits 10 digits count
  pub value : count * scale ≡ n

-- digits, and a letter or none
abbrev pub IsDecimal : List ℕ → ℕ → Type 0
IsDecimal word n = IsDigits 10 word n ⊎ IsScaled word n

-- `0x` and digits
pub record IsHexadecimal (word : List ℕ) (n : ℕ) : Type 0 where
  pub digits : List ℕ
  pub parts : word ≡ 48 ∷ (120 ∷ digits)
  pub is_number : IsDigits 16 digits n

abbrev pub IsNumber : List ℕ → ℕ → Type 0
IsNumber word n = IsDecimal word n ⊎ IsHexadecimal word n

-- the number that a word gives to a value of this kind, which fits in its width; 0 if the value is no number
abbrev pub IsRead : Value → List ℕ → ℕ → Type 0
IsRead Number word n = IsNumber word n × (n < 2 ^ 32)
IsRead LongNumber word n = IsNumber word n × (n < 2 ^ 64)
IsRead (Count least) word n = IsDigits 10 word n × (n < 2 ^ 32)
IsRead File word n = n ≡ 0
IsRead Text word n = n ≡ 0
IsRead CommandLine word n = n ≡ 0
IsRead Os word n = n ≡ 0
IsRead (Name names) word n = n ≡ 0
IsRead IsGiven word n = n ≡ 0
IsRead PythonNumber word n = (python_number word ≡ Some n) × (n < 2 ^ 32)
IsRead LongPythonNumber word n = python_number word ≡ Some n
IsRead OsVersion word n = os_version word ≡ Some n
IsRead PatchLevel word n = patch_level word ≡ Some n
IsRead NotTaken word n = (word ≡ codes "false") × (n ≡ 0)
