-- The files of a run: its inputs and its outputs.
use Rattle.std.specs.Prelude.{◌≡◌, ◌++◌, ◌∷◌, [], IsTrue, Contains}
use Rattle.sys_host.specs.Streams.{Reported, Mixed}
use Rattle.sys_identity.specs.declared.identity.Identity.{Identity}
use Rattle.sys_host.specs.declared.taken.Taken.{Taken}
use Rattle.sys_host.specs.declared.streams.Streams.{Streams}

-- no output may be this file: it holds data, and is read, or written already
abbrev pub Forbidden : Taken → Identity → Type 0
Forbidden taken file = IsTrue file.holds_data × Contains taken.files.items file

-- the same files, and this one
abbrev pub Adds : Taken → Taken → Identity → Type 0
Adds old new file = new.files.items ≡ old.files.items ++ (file ∷ [])

-- one more file is read: no report is written into it, and no output may be it from then on
pub record ReadsOne (streams : Streams) (taken taken' : Taken) : Type 0 where
  pub file : Identity
  pub spared : ¬ Reported streams file
  pub added : Adds taken taken' file

-- one more file is written: it is none that is read, and none that is written already, and no message is mixed with its
-- data
pub record WritesOne (streams : Streams) (taken taken' : Taken) : Type 0 where
  pub file : Identity
  pub free : ¬ Forbidden taken file
  pub apart : ¬ Mixed streams file
  pub added : Adds taken taken' file
