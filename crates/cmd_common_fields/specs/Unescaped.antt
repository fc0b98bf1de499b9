-- A text in which `\x` and two hexadecimal digits encode a byte.
use Rattle.std.specs.Prelude.{ℕ, ◌+◌, ◌*◌, ◌==◌, ◌&&◌, if◌then◌else◌, List, [], ◌∷◌, Option, Some, None}
use Rattle.hex.specs.Hex.{hex_digit_value}

abbrev pub byte_of_digits : Option ℕ → Option ℕ → Option ℕ
byte_of_digits (Some high) (Some low) = Some (16 * high + low)
byte_of_digits (Some high) None = None
byte_of_digits None low = None

-- the byte of two hexadecimal digits, 0 to 9, a to f or A to F
abbrev pub byte_of : ℕ → ℕ → Option ℕ
byte_of high low = byte_of_digits (hex_digit_value high) (hex_digit_value low)

-- the byte that four characters encode
abbrev pub escaped_byte : ℕ → ℕ → ℕ → ℕ → Option ℕ
escaped_byte a b c d = if (a == 92) && (b == 120) then byte_of c d else None

-- the byte of the escape that a text begins with
abbrev pub escape_in : List ℕ → Option ℕ
escape_in [] = None
escape_in (a ∷ []) = None
escape_in (a ∷ b ∷ []) = None
escape_in (a ∷ b ∷ c ∷ []) = None
escape_in (a ∷ b ∷ c ∷ d ∷ x) = escaped_byte a b c d

-- what a text encodes: each character that begins no escape, also a backslash, encodes itself
abbrev pub unescaped : List ℕ → List ℕ
unescaped [] = []
unescaped (a ∷ []) = a ∷ []
unescaped (a ∷ b ∷ []) = a ∷ b ∷ []
unescaped (a ∷ b ∷ c ∷ []) = a ∷ b ∷ c ∷ []
unescaped (a ∷ b ∷ c ∷ d ∷ x) = elim (escaped_byte a b c d) [
  | Some byte ↦ byte ∷ unescaped x
  | None ↦ a ∷ unescaped (b ∷ c ∷ d ∷ x)
]
