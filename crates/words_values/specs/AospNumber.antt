-- Numbers as mkbootimg reads them: those of Python's `int(word, 0)`, an OS version and a patch level.
use Rattle.std.specs.Prelude.{◌==◌, ◌&&◌, ◌+◌, ◌-◌, ◌*◌, ◌^◌, ℕ, List, [], ◌∷◌, Bool, true, false, Option, Some, None}
use Rattle.std.specs.Prelude.{if◌then◌else◌, nat_lt, nat_le}
use Rattle.std.specs.Char.{digit_value}
use Rattle.std.specs.Str.{trim}
use Rattle.words_values.specs.declared.aosp_numbers.Digits.{Digits}

-- ---- digits, with an underscore between two of them or none

abbrev pub digits : ℕ → Bool → Digits
digits number is_ended = record { number = number; is_ended = is_ended }

-- the digits so far, and one more, if the number still fits in 64 bits
abbrev pub with_digit : ℕ → ℕ → ℕ → Option Digits
with_digit radix number c =
    if nat_lt (digit_value c) radix && nat_lt (number * radix + digit_value c) (2 ^ 64)
    then Some (digits (number * radix + digit_value c) true) else None

-- an underscore after a digit
abbrev pub with_underscore : Digits → Option Digits
with_underscore d = if d.is_ended then Some (digits d.number false) else None

abbrev pub with_letter : ℕ → Option Digits → ℕ → Option Digits
with_letter radix None c = None
with_letter radix (Some d) c = if c == 95 then with_underscore d else with_digit radix d.number c

abbrev pub with_letters : ℕ → Option Digits → List ℕ → Option Digits
with_letters radix d [] = d
with_letters radix d (c ∷ rest) = with_letters radix (with_letter radix d c) rest

-- the number of digits whose last is one
abbrev pub number_ended : Option Digits → Option ℕ
number_ended None = None
number_ended (Some d) = if d.is_ended then Some d.number else None

abbrev pub python_digits : ℕ → List ℕ → Option ℕ
python_digits radix word = number_ended (with_letters radix (Some (digits 0 false)) word)

-- ---- Python's `int(word, 0)`

-- the radix of `0x`, `0o` and `0b`, also with a large letter
abbrev pub radix_of : ℕ → Option ℕ
radix_of c =
    if c == 120 then Some 16 else if c == 88 then Some 16
    else if c == 111 then Some 8 else if c == 79 then Some 8
    else if c == 98 then Some 2 else if c == 66 then Some 2 else None

-- without an underscore at its beginning
abbrev pub behind_underscore : List ℕ → List ℕ
behind_underscore [] = []
behind_underscore (c ∷ rest) = if c == 95 then rest else c ∷ rest

-- a leading zero is followed by no other digit than zeros
abbrev pub only_zero : Option ℕ → Option ℕ
only_zero None = None
only_zero (Some n) = if n == 0 then Some 0 else None

-- of a word that begins with a zero, and of what stands behind its second letter
abbrev pub number_behind_zero : Option ℕ → List ℕ → List ℕ → Option ℕ
number_behind_zero (Some radix) word rest = python_digits radix (behind_underscore rest)
number_behind_zero None word rest = only_zero (python_digits 10 word)

-- without a sign and without white space
abbrev pub plain_number : List ℕ → Option ℕ
plain_number [] = None
plain_number (c ∷ []) = python_digits 10 (c ∷ [])
plain_number (c ∷ (letter ∷ rest)) =
    if c == 48 then number_behind_zero (radix_of letter) (c ∷ (letter ∷ rest)) rest
    else python_digits 10 (c ∷ (letter ∷ rest))

-- with a sign, `+` or `-`, directly before it, or without one; a number below zero is none
abbrev pub signed_number : List ℕ → Option ℕ
signed_number [] = None
signed_number (c ∷ rest) =
    if c == 43 then plain_number rest else if c == 45 then only_zero (plain_number rest) else plain_number (c ∷ rest)

-- with white space around it, or without
abbrev pub python_number : List ℕ → Option ℕ
python_number word = signed_number (trim word)

-- ---- a few digits at the beginning of a text

-- the number that they encode, how many they are, and what follows them
pub record FrontDigits : Type 0 where
  pub number : ℕ
  pub count : ℕ
  pub rest : List ℕ

abbrev pub front_digits : ℕ → ℕ → List ℕ → FrontDigits
front_digits number count rest = record { number = number; count = count; rest = rest }

abbrev pub is_digit : ℕ → Bool
is_digit c = nat_le 48 c && nat_le c 57

-- with the next letter, if it is a digit
abbrev pub more_from : ℕ → ℕ → List ℕ → FrontDigits
more_from number count [] = front_digits number count []
more_from number count (c ∷ rest) =
    if is_digit c then front_digits (number * 10 + (c - 48)) (count + 1) rest else front_digits number count (c ∷ rest)

abbrev pub more : FrontDigits → FrontDigits
more f = more_from f.number f.count f.rest

abbrev pub two : List ℕ → FrontDigits
two text = more (more (front_digits 0 0 text))

abbrev pub three : List ℕ → FrontDigits
three text = more (two text)

abbrev pub four : List ℕ → FrontDigits
four text = more (three text)

-- ---- an OS version, `A`, `A.B` or `A.B.C`, whatever follows it; 0, where there is none

-- one to three digits after a dot
abbrev pub behind_dot : List ℕ → Option FrontDigits
behind_dot [] = None
behind_dot (c ∷ rest) = if (c == 46) && nat_lt 0 (three rest).count then Some (three rest) else None

abbrev pub packed_version : ℕ → ℕ → ℕ → Option ℕ
packed_version a b c =
    if nat_lt a 128 && (nat_lt b 128 && nat_lt c 128) then Some (a * 16384 + b * 128 + c) else None

abbrev pub version_from_c : ℕ → ℕ → Option FrontDigits → Option ℕ
version_from_c a b None = packed_version a b 0
version_from_c a b (Some c) = packed_version a b c.number

abbrev pub version_from_b : ℕ → Option FrontDigits → Option ℕ
version_from_b a None = packed_version a 0 0
version_from_b a (Some b) = version_from_c a b.number (behind_dot b.rest)

abbrev pub os_version : List ℕ → Option ℕ
os_version word =
    if (three word).count == 0 then Some 0 else version_from_b (three word).number (behind_dot (three word).rest)

-- ---- a patch level, `YYYY-MM`, whatever follows it; 0, where there is none

abbrev pub packed_level : ℕ → ℕ → Option ℕ
packed_level year month =
    if nat_le 2000 year && (nat_lt year 2128 && (nat_lt 0 month && nat_le month 12))
    then Some ((year - 2000) * 16 + month) else None

abbrev pub level_from : ℕ → List ℕ → Option ℕ
level_from year [] = Some 0
level_from year (c ∷ rest) =
    if (c == 45) && ((two rest).count == 2) then packed_level year (two rest).number else Some 0

abbrev pub patch_level : List ℕ → Option ℕ
patch_level word = if (four word).count == 4 then level_from (four word).number (four word).rest else Some 0
