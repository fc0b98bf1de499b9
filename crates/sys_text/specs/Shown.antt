-- The text in a buffer, what an output shows of a text, and a path as a terminal can show it.
use Rattle.std.specs.Prelude.{◌≡◌, ℕ, List, [], ◌∷◌, ◌++◌, ◌/◌, ◌%◌, ◌||◌, Bool, false, take, chars, encode_utf8}
use Rattle.std.specs.Prelude.{flat_map, if◌then◌else◌}
use Rattle.std.specs.Char.{is_control}
use Rattle.std.specs.Fmt.{digit_glyph}
use Rattle.std.specs.Int.{is_in_range}

-- the first bytes, which are used
abbrev pub text_in : List ℕ → ℕ → List ℕ
text_in bytes used = take used bytes

-- of a text of at most 8,192 bytes, these more were kept as far as they have room
abbrev pub HoldsMore : List ℕ → ℕ → List ℕ → List ℕ → ℕ → Type 0
HoldsMore bytes used more bytes' used' = text_in bytes' used' ≡ take 8192 (text_in bytes used ++ more)

-- a control character, or one of the marks of direction that enclose other text
abbrev pub acts_on_terminal : ℕ → Bool
acts_on_terminal c = is_control c || (is_in_range 0x202a 0x202e c || is_in_range 0x2066 0x2069 c)

-- `\x` and two hexadecimal digits
abbrev pub byte_escape : ℕ → List ℕ
byte_escape b = 92 ∷ 120 ∷ digit_glyph false (b / 16) ∷ digit_glyph false (b % 16) ∷ []

-- a character as a terminal can show it
abbrev pub shown_letter : ℕ → List ℕ
shown_letter c = if acts_on_terminal c then flat_map byte_escape (encode_utf8 c) else encode_utf8 c

-- and a path
abbrev pub as_shown : List ℕ → List ℕ
as_shown path = flat_map shown_letter (chars path)
