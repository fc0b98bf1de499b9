-- What was read ahead of a file.
use Rattle.std.specs.Prelude.{ℕ, List, Option, IfSome, take}
use Rattle.sys_devices.specs.Places.{FoundAt}
use Rattle.sys_devices.specs.declared.held.CachedBytes.{CachedBytes}
use Rattle.sys_devices.specs.declared.ahead.Ahead.{Ahead}

-- the buffered bytes are a part of the file
abbrev pub HoldsPart : List ℕ → CachedBytes → Type 0
HoldsPart content h = FoundAt content h.at (take h.count h.bytes.items)

-- the same of both parts
pub record HoldsBoth (content : List ℕ) (a : Ahead) : Type 0 where
  pub one : HoldsPart content a.one
  pub other : HoldsPart content a.other

-- the same where anything is buffered
abbrev pub HoldsAny : List ℕ → Option Ahead → Type 0
HoldsAny content o = IfSome o (HoldsBoth content)
