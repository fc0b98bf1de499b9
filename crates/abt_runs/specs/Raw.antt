-- Places of a raw image.
use Rattle.std.specs.Prelude.{◌≡◌, ℕ, ◌+◌, ◌-◌, ◌*◌, ◌≤◌, ◌<◌, ◌/◌, ◌%◌, ◌^◌, ◌==◌, nat_lt, min, if◌then◌else◌}
use Rattle.std.proofs.Props.{props}
use Rattle.abt_runs.specs.declared.part.RunFault.{RunFault}
use Rattle.abt_runs.specs.declared.part.RunFault.TheVariants.{Sparse, Read, TooLarge, SourceChanged, BadBlock}
use Rattle.abt_runs.specs.declared.part.Cursor.{Cursor}

pub record RawPlace (blocks size : ℕ) (c : Cursor) : Type 0 where
  pub within : c.block ≤ blocks
  pub some : 0 < c.ask
  pub window : c.ask * size ≤ 65536
  pub passed : c.ask ≤ 2 * c.block + 1
  pub used : c.used ≡ 0

pub RawPlace-prop : (blocks size : ℕ) (c : Cursor) → IsProp (RawPlace blocks size c)
RawPlace-prop blocks size c = Prim.hlevel props

-- how many bytes a pass may have read: twice those passed, less what was asked for in advance
abbrev pub raw_charge : ℕ → ℕ → ℕ → Cursor → ℕ
raw_charge long blocks size c = if nat_lt c.block blocks then (2 * c.block + 1 - c.ask) * size else 2 * long

-- how many of its bytes are before a place, and how many of the first n bytes after it
abbrev pub raw_before : ℕ → ℕ → Cursor → ℕ
raw_before long size c = min long (c.block * size)

abbrev pub raw_held : ℕ → ℕ → Cursor → ℕ → ℕ
raw_held long size c n = min n (long - c.block * size)

-- why a raw image isn't opened
abbrev pub RefusedRaw : RunFault → ℕ → ℕ → Type 0
RefusedRaw (BadBlock n) size long = (n ≡ size) × ((4 ≤ size) × (size ≤ 65536) × (size % 4 ≡ 0) → ⊥)
RefusedRaw TooLarge size long = (4 ≤ size) × (size ≤ 65536) × (size % 4 ≡ 0) × ((2 ^ 32 - 1) * size < long)
RefusedRaw (Sparse f) size long = ⊥
RefusedRaw (Read f) size long = ⊥
RefusedRaw SourceChanged size long = ⊥

-- how many words of the last block may be zeros that were not read
abbrev pub raw_padding : ℕ → ℕ → Cursor → ℕ
raw_padding blocks size c = if c.block + 1 == blocks then size / 4 else 0
