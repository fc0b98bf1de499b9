-- The letters of a path, one after another.
use Rattle.std.proofs.Common.{◌≡◌, ℕ, ◌<◌, ◌+◌, ◌-◌, ◌^◌, List, [], ◌∷◌, ◌++◌, length, Some, false, ap, sym, ◌∙◌}
use Rattle.std.proofs.Common.{IsUtf8, take}
use Rattle.std.specs.Prelude.{encode_utf8, flat_map, get_or, option_map}
use Rattle.std.specs.Fmt.{◌++?◌, digits_output, format_spec, padded_integral, radix_digits, styled_digits_output}
use Rattle.std.proofs.lemmas.Fmt.{hex_byte}
use Rattle.std.proofs.lemmas.Str.{chars-nil, chars_past_char}
use Rattle.std.proofs.lemmas.List.{flat_map_more, take_more, nil_from_length}
use Rattle.sys_text.specs.Shown.{as_shown, byte_escape, shown_letter}

pub shown_empty : (text : List ℕ) → length text ≡ 0 → as_shown text ≡ []
shown_empty text none =
    ap as_shown (nil_from_length text none) ∙ ap (flat_map shown_letter) chars-nil

pub shown_step : (text rest : List ℕ) (c : ℕ) → IsUtf8 text → text ≡ encode_utf8 c ++ rest
    → as_shown text ≡ shown_letter c ++ as_shown rest
shown_step text rest c utf8 parts = ap (flat_map shown_letter) (chars_past_char text rest c utf8 parts)

-- one byte more is escaped
pub escaped_more : (bytes : List ℕ) (i d : ℕ) → i < length bytes
    → flat_map byte_escape (take i bytes) ++ byte_escape (get_or bytes i d)
    ≡ flat_map byte_escape (take (i + 1) bytes)
escaped_more bytes i d below =
    flat_map_more byte_escape [] (take i bytes) (get_or bytes i d)
    ∙ ap (flat_map byte_escape) (sym (take_more bytes i d below))

-- what `\x{byte:02x}` writes
pub escaped_text : (d : _) (s : _) (b : ℕ) → b < 256 → s ≡ format_spec 32 0 4 2 (2 ^ 64 - 1)
    → digits_output d ≡ Some (radix_digits 16 false b)
    → Some (92 ∷ 120 ∷ []) ++? styled_digits_output d s ≡ Some (byte_escape b)
escaped_text d s b small laid radix =
    ap (λ t. Some (92 ∷ 120 ∷ []) ++? styled_digits_output d t) laid
    ∙ ap (λ o. Some (92 ∷ 120 ∷ []) ++? option_map (padded_integral (format_spec 32 0 4 2 (2 ^ 64 - 1)) false []) o)
    radix ∙ ap (λ l. Some (92 ∷ 120 ∷ l)) (hex_byte false b small)
