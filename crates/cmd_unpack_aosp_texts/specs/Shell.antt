-- Arguments as a shell reads them, in the form that Python's shlex writes.
use Rattle.std.specs.Prelude.{ℕ, ◌==◌, ◌&&◌, ◌||◌, not, nat_le, Bool, true, false, if◌then◌else◌, List, [], ◌∷◌, ◌++◌}
use Rattle.std.specs.Prelude.{codes}
use Rattle.std.specs.List.{flat_map}
use Rattle.cmd_unpack_aosp_texts.specs.declared.shell.Word.{Word}

-- the bytes of an argument in parts
abbrev pub word_bytes : Word → List ℕ
word_bytes w = w.front.now ++ (w.middle.now ++ (w.back.now ++ w.end.now))

-- a letter, a digit, or one of `%+,-./:=@_`: it has no special meaning for a shell
abbrev pub is_safe : ℕ → Bool
is_safe b =
    (nat_le 0x2b b && nat_le b 0x3a) || ((nat_le 0x40 b && nat_le b 0x5a) || ((nat_le 0x61 b && nat_le b 0x7a)
    || ((b == 0x25) || ((b == 0x3d) || (b == 0x5f)))))

abbrev pub are_safe : List ℕ → Bool
are_safe [] = true
are_safe (b ∷ x) = is_safe b && are_safe x

abbrev pub is_blank : List ℕ → Bool
is_blank [] = true
is_blank (b ∷ x) = false

-- a quote is written outside of the quotes, between others
abbrev pub escaped_quote : ℕ → List ℕ
escaped_quote b = if b == 39 then codes "'\"'\"'" else b ∷ []

abbrev pub between_quotes : List ℕ → List ℕ
between_quotes x = codes "'" ++ (flat_map escaped_quote x ++ codes "'")

-- what a shell reads as x
abbrev pub shell_quoted : List ℕ → List ℕ
shell_quoted x = if not (is_blank x) && are_safe x then x else between_quotes x
