-- What a part of an image writes to a partition, and what a call may touch of it.
use Rattle.std.specs.Prelude.{◌≡◌, ℕ, ◌+◌, ◌*◌, ◌≤◌, ◌<◌, Bool, List, [], length, take, replicate, Option}
use Rattle.std.specs.Prelude.{None, is_some, slice_get, slice_index_or, ◌⊎◌, Result, Ok, Err, OnOk, OnErr, IfErr, false}
use Rattle.std.specs.List.{concat}
use Rattle.abt_io.specs.Moment.{EachSince, Keeps, Moment, Past, in_range, moment_of}
use Rattle.abt_io.specs.declared.device.DeviceFault.TheVariants.{Failed}
use Rattle.abt_io.specs.declared.device.Partition as partitions
use Rattle.abt_io.specs.declared.meter.Meter.{Meter}
use Rattle.abt_io.specs.Lent.{NoStep}
use Rattle.abt_sparse.specs.Block.{over}
use Rattle.abt_chunks.specs.Places.{from_place}
use Rattle.abt_chunks.specs.declared.walk.Part.{Part}
use Rattle.abt_chunks.specs.declared.walk.Part.TheVariants as parts
use Rattle.abt_io.specs.declared.device.DeviceFault.{DeviceFault}
use Rattle.abt_flash_faults.specs.Fault.{UnlessUnwritten}
use Rattle.abt_flash_faults.specs.declared.fault.FlashFault.{FlashFault}
use Rattle.abt_flash_faults.specs.declared.fault.FlashFault.TheVariants as flashes
use Rattle.abt_flash.specs.declared.write_part.PartTask.{PartTask}
use Rattle.abt_flash.specs.declared.write_part.PartTask.TheVariants as tasks

-- byte i of a device is written by cells that are written from its first byte on
abbrev pub writes : List (Option ℕ) → ℕ → Bool
writes cs i = is_some (slice_index_or cs i None)

-- ---- what is done for a part

-- its bytes and its words are written, a gap is left as it is, and at the end all is synced
abbrev pub task_of : Part → PartTask
task_of (parts.Raw n) = tasks.Bytes n
task_of (parts.Words word n) = tasks.Words word n
task_of (parts.Skip n) = tasks.Nothing
task_of parts.Nothing = tasks.Nothing
task_of parts.End = tasks.Sync
task_of (parts.Fault f) = tasks.Nothing

-- how many bytes a task writes, and which, its own from the beginning of the window
abbrev pub put_in : PartTask → ℕ
put_in (tasks.Bytes n) = n
put_in (tasks.Words word n) = 4 * n
put_in tasks.Sync = 0
put_in tasks.Nothing = 0

abbrev pub bytes_by : PartTask → List ℕ → List ℕ
bytes_by (tasks.Bytes n) window = take n window
bytes_by (tasks.Words word n) window = concat (replicate n word)
bytes_by tasks.Sync window = []
bytes_by tasks.Nothing window = []

-- a task that can be done: at most a window, and some words
abbrev pub CanDo : PartTask → Type 0
CanDo (tasks.Bytes n) = n ≤ 65536
CanDo (tasks.Words word n) = 0 < n
CanDo tasks.Sync = Unit {0}
CanDo tasks.Nothing = Unit {0}

-- the partition is not called
abbrev pub IsIdle : PartTask → Type 0
IsIdle (tasks.Bytes n) = ⊥
IsIdle (tasks.Words word n) = ⊥
IsIdle tasks.Sync = ⊥
IsIdle tasks.Nothing = Unit {0}

-- what is returned for a task that was done, or refused by the partition
abbrev pub refused_by : PartTask → DeviceFault → FlashFault
refused_by (tasks.Bytes n) d = flashes.Write d
refused_by (tasks.Words word n) d = flashes.Write d
refused_by tasks.Sync d = flashes.Sync d
refused_by tasks.Nothing d = flashes.Write d

abbrev pub answered : PartTask → Result (Unit {0}) DeviceFault → Result (Unit {0}) FlashFault
answered task (Ok u) = Ok u
answered task (Err d) = Err (refused_by task d)

-- a sync that succeeded, and then nothing is pending
abbrev pub syncs_in : {E : Type 0} → PartTask → Result (Unit {0}) E → ℕ
syncs_in tasks.Sync (Ok u) = 1
syncs_in t r = 0

abbrev pub SettlesIn : PartTask → List (ℕ × ℕ) → Type 0
SettlesIn tasks.Sync pending = pending ≡ []
SettlesIn t pending = Unit {0}

-- a sync that was refused
abbrev pub refused_in : {E : Type 0} → PartTask → Result (Unit {0}) E → ℕ
refused_in tasks.Sync (Err e) = 1
refused_in t r = 0

-- P, save where bytes were not written
abbrev pub UnlessUndone : {E : Type 0} → PartTask → Result (Unit {0}) E → Type 0 → Type 0
UnlessUndone t (Ok u) P = P
UnlessUndone tasks.Sync (Err e) P = P
UnlessUndone t (Err e) P = Unit {0}

-- ---- the same of a part

-- how many bytes are written of it
abbrev pub put_by : Part → ℕ
put_by (parts.Raw n) = n
put_by (parts.Words word n) = 4 * n
put_by q = 0

-- a part for which the partition is not called
abbrev pub IsStill : Part → Type 0
IsStill (parts.Raw n) = ⊥
IsStill (parts.Words word n) = ⊥
IsStill parts.End = ⊥
IsStill q = Unit {0}

-- a sync that succeeded, at the end of an image, and nothing is pending
abbrev pub syncs_by : Part → Result (Unit {0}) FlashFault → ℕ
syncs_by parts.End (Ok u) = 1
syncs_by q r = 0

abbrev pub Settles : Part → List (ℕ × ℕ) → Type 0
Settles parts.End pending = pending ≡ []
Settles q pending = Unit {0}

-- ---- what a call may touch

-- A state n of a call that lasted from m to e: what isn't touched is as it was at m, and no sync has succeeded since,
-- or it is the last state.
pub record During (touched : ℕ → Bool) (m e n : Moment) : Type 0 where
  pub kept : Keeps touched m n
  pub synced : (n.synced ≡ m.synced) ⊎ (n ≡ e)

-- In every intermediate state of a call, from the first to the last, no byte is touched but these.
pub record Touches (touched : ℕ → Bool) (past past' : Past) (p p' : List ℕ) : Type 0 where
  pub kept : Keeps touched (moment_of past p) (moment_of past' p')
  pub moments : EachSince past.moments past'.moments (During touched (moment_of past p) (moment_of past' p'))

-- ---- what is written where a device has failed

-- The first `laid` of these cells are written over p, from a place on. Up to `torn` bytes behind them may be anything,
-- and p' equals p everywhere else.
pub record IsFrontLaid (torn at : ℕ) (cells : List (Option ℕ)) (p p' : List ℕ) : Type 0 where
  pub laid : ℕ
  pub within : laid ≤ length cells
  pub long : length p' ≡ length p
  pub kept : (i : ℕ) → in_range (laid + at) torn i ≡ false
      → slice_get p' i ≡ slice_get (over p (from_place at (take laid cells))) i

-- Where a device failed, a front of these cells is written. If that was a write, up to a window of bytes behind the
-- front may be anything.
abbrev pub BreaksOff : {X : Type 0} → Result X FlashFault → ℕ → List (Option ℕ) → List ℕ → List ℕ → Type 0
BreaksOff (Err (flashes.Read d)) at cells p p' = IsFrontLaid 0 at cells p p'
BreaksOff (Err (flashes.Write d)) at cells p p' = IsFrontLaid 65536 at cells p p'
BreaksOff r at cells p p' = Unit {0}

-- all of these cells are written over p from a place on, and where a device failed, a front of them
pub record LaysCells {X : Type 0} (r : Result X FlashFault) (at : ℕ) (cells : List (Option ℕ)) (p p' : List ℕ) : Type 0
  where
    pub all : UnlessUnwritten r (p' ≡ over p (from_place at cells))
    pub front : BreaksOff r at cells p p'

-- ---- what writing a part costs

-- The calls of the partition, and the turns of loops, in the bytes that it took; no step ends.
pub record PutCosts {X E : Type 0} (r : Result X E) (more : ℕ) {C : Type 0} (p : partitions.Ghosts C) (old new : C)
    (m m' : Meter) : Type 0 where
  pub taken : p.taken old ≤ p.taken new
  pub calls : p.puts new + p.syncs new + 2 * p.taken old ≤ p.puts old + p.syncs old + 2 * p.taken new + 1
  pub turns : m'.turns.number + 2 * p.taken old ≤ m.turns.number + 2 * p.taken new + 16
  pub few : OnOk r (m'.turns.number + 2 * p.taken old ≤ m.turns.number + 2 * p.taken new + more)
  pub no_step : NoStep m m'

-- It is refused where the partition has failed, and for no other reason.
pub record PutFails {X : Type 0} (r : Result X DeviceFault) (old new : ℕ) : Type 0 where
  pub cause : OnErr r (old < new)
  pub clean : OnOk r (new ≡ old)
  pub failed : IfErr r (λ e. e ≡ Failed)
