-- What was taken from a source, and what was read for it.
use Rattle.std.specs.Prelude.{ℕ, ◌+◌, ◌*◌, nat_lt, min, if◌then◌else◌}
use Rattle.abt_placed.specs.declared.placer.Placer.{Placer}

-- how many blocks a placer has taken
abbrev pub taken : Placer → ℕ
taken s = s.blocks + s.count

-- how many bytes of a source were read for n blocks of b bytes
abbrev pub read_of : ℕ → ℕ → ℕ → ℕ
read_of long b n = min (n * b) long

-- so much, where the last of n blocks was filled up with zeros
abbrev pub spare : ℕ → ℕ → ℕ → ℕ → ℕ
spare k long b n = if nat_lt long (n * b) then k else 0
