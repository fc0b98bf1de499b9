-- A number that is stored in bytes, little-endian, as every field of a sparse image is.
use Rattle.std.specs.Prelude.{ℕ, List, drop}
use Rattle.byteorder.specs.Endian.{little_number}

-- the number in the size bytes at a place
abbrev pub number_at : ℕ → ℕ → List ℕ → ℕ
number_at place size bytes = little_number size (drop place bytes)
