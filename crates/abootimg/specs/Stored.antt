-- What contracts know of where the files of a run are.
use Rattle.std.specs.Prelude.{◌≡◌, ◌<◌, ◌≤◌, ◌+◌, ℕ, List, Bool, true, false}
use Rattle.sys_disk.specs.Counts.{Cause, Counts, added, call_of, no_counts}
use Rattle.sys_disk.specs.World.{World, OpenFiles}
use Rattle.sys_refusals.specs.declared.refusal.HostFault.TheVariants as faults

-- the files, which paths lead to devices in use, and what a run counts
pub record Stored : Type 0 where
  pub world : World
  pub in_use : List ℕ → Bool
  pub counts : Counts

-- what a disk has that is given back
abbrev pub stored : World → OpenFiles → Stored
stored world held = record { world = world; in_use = held.in_use; counts = held.counts }

-- a folder or a link is made, or a call has failed that has the fault `CannotOpen`
abbrev pub making : Bool → Counts
making true = no_counts
making false = call_of faults.CannotOpen

-- this much more is counted, and no file has changed
abbrev pub counting_more : Counts → Stored → Stored
counting_more n s = record s { counts = added s.counts n }

-- from the one to the other this has failed
abbrev pub FailsBetween : Stored → Stored → Cause → Type 0
FailsBetween a z cause = a.counts.failed cause < z.counts.failed cause

-- this is so of a call, or of a device
pub record SomeFails (a z : Stored) : Type 0 where
  pub cause : Cause
  pub rises : FailsBetween a z cause

-- nothing has failed
pub record NothingFails (a z : Stored) : Type 0 where
  pub stays : (cause : Cause) → z.counts.failed cause ≡ a.counts.failed cause

-- no file has changed, the same devices are in use, and perhaps more has failed
pub record KeepsStored (a z : Stored) : Type 0 where
  pub same : z.world ≡ a.world
  pub in_use : z.in_use ≡ a.in_use
  pub rises : (cause : Cause) → a.counts.failed cause ≤ z.counts.failed cause
