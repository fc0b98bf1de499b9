-- What holds of the files that a command was given.
use Rattle.std.specs.Prelude.{◌≡◌, ◌≢◌, ◌<◌, ◌⊎◌, ℕ, Bool, false, List, [], length, slice_get, Some, None, Result, OnOk}
use Rattle.sys_refusals.specs.declared.refusal.HostFault.{HostFault}
use Rattle.sys_disk.specs.Counts.{Cause, call, reading, writing}
use Rattle.sys_disk.specs.World.{World, OpenFiles, KeepsFile, Spares, SparesInUse, HasFailed, HasNotFailed}
use Rattle.sys_disk.specs.InPlace.{SparesOthers}

-- no file was opened for writing, no file is written in place, and no file is open for pieces
pub record MayFlashPieces (held : OpenFiles) : Type 0 where
  pub first : held.begun ≡ []
  pub one : held.part ≡ None
  pub through : held.spool ≡ None

-- the file at this path alone may hold anything else, and not where it is in use and that is not allowed
pub record SparesAround (partition : List ℕ) (held : OpenFiles) (old new : World) : Type 0 where
  pub others : SparesOthers partition old new
  pub in_use : SparesInUse partition held old new

-- What a command that writes leaves of files, whatever the outcome. `Spared` states it of all files but those that it
-- writes, and IN holds what it held. The result is Ok only where nothing has failed, and PARTITION is closed.
pub record LeavesOthers {X F : Type 0} (r : Result X F) (Spared : Type 0) (from : List ℕ) (held held' : OpenFiles)
    (old new : World) : Type 0 where
  pub others : Spared
  pub input : KeepsFile from old new
  pub clean : OnOk r (HasNotFailed held held')
  pub closed : OnOk r (held'.part ≡ None)

-- the file at this path exists, and P holds of its bytes
pub record OfFile (input : List ℕ) (world : World) (P : List ℕ → Type 0) : Type 0 where
  pub from : ℕ
  pub there : world.at input ≡ Some from
  pub so : P (world.holds from)

-- the files at both paths are there, and P holds of their bytes
pub record OfBoth (input partition : List ℕ) (world : World) (P : List ℕ → List ℕ → Type 0) : Type 0 where
  pub from : ℕ
  pub against : ℕ
  pub there : world.at input ≡ Some from
  pub here : world.at partition ≡ Some against
  pub so : P (world.holds from) (world.holds against)

-- The files at both paths are there, and are two. P holds of what the first held, what the second held, and what the
-- second holds now. No other has changed.
pub record Between (input partition : List ℕ) (old new : World) (P : List ℕ → List ℕ → List ℕ → Type 0) : Type 0 where
  pub from : ℕ
  pub onto : ℕ
  pub there : old.at input ≡ Some from
  pub here : old.at partition ≡ Some onto
  pub apart : from ≢ onto
  pub so : P (old.holds from) (old.holds onto) (new.holds onto)
  pub spares : Spares onto old new

-- ---- where a device has failed

-- p' is as long as p, and equals p except where it is touched
pub record HoldsBut (touched : ℕ → Bool) (p p' : List ℕ) : Type 0 where
  pub long : length p' ≡ length p
  pub kept : (i : ℕ) → touched i ≡ false → slice_get p' i ≡ slice_get p i

-- so much is so, and PARTITION is closed
abbrev pub OnClosed : OpenFiles → Type 0 → Type 0
OnClosed held P = (held.part ≡ None) × P

-- A call of the disk has failed with this fault before the work at PARTITION, which holds what it held; or after it,
-- and all of it is done.
abbrev pub FailsAround : HostFault → List ℕ → World → World → OpenFiles → OpenFiles → Type 0 → Type 0
FailsAround f partition old new held held' Done =
    HasFailed (call f) held held' × (KeepsFile partition old new ⊎ OnClosed held' Done)

-- a device that is read has failed, or one that is written: how often each of them had failed, and has failed now
abbrev pub DeviceFailed : ℕ → ℕ → ℕ → ℕ → Cause → Type 0
DeviceFailed read read' put put' (call f) = ⊥
DeviceFailed read read' put put' reading = read < read'
DeviceFailed read read' put put' writing = put < put'

-- neither of them has
abbrev pub NeitherFailed : ℕ → ℕ → ℕ → ℕ → Type 0
NeitherFailed read read' put put' = (read' ≡ read) × (put' ≡ put)
