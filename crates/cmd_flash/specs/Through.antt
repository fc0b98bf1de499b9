-- What closing the file that pieces went through adds to what was delivered.
use Rattle.std.specs.Prelude.{◌≡◌, ◌<◌, ℕ, ◌+◌, ◌-◌, ◌^◌, min, Option, Some, None, Result, Ok, Err}
use Rattle.sys_disk.specs.Counts as runs
use Rattle.sys_disk.specs.Spools.{closed_spool}
use Rattle.sys_disk.specs.World.{OpenFiles}
use Rattle.abt_flash.specs.declared.answer.Delivered.{Delivered}
use Rattle.abt_flash_faults.specs.declared.fault.Cause.{Cause}
use Rattle.abt_flash_faults.specs.declared.fault.FlashFault.{FlashFault}
use Rattle.abt_flash_faults.specs.declared.fault.FlashFault.TheVariants as flashes
use Rattle.cmd_common_sparse.specs.declared.fault.SparseCommandFault.{SparseCommandFault}
use Rattle.cmd_common_sparse.specs.declared.fault.SparseCommandFault.TheVariants as faults

-- the file is closed, whatever has failed
pub record ClosesSpool (held held' : OpenFiles) : Type 0 where
  pub failures : runs.Counts
  pub closed : held' ≡ closed_spool failures held

-- how often this has failed in a run, with the source and the partition, which are open: how often each of them has
abbrev pub failed_with : ℕ → ℕ → OpenFiles → runs.Cause → ℕ
failed_with read put held cause = held.counts.failed cause + (runs.of_reading read cause + runs.of_writing put cause)

-- this has failed meanwhile, where neither of them had before
abbrev pub HasFailedWith : ℕ → ℕ → OpenFiles → OpenFiles → runs.Cause → Type 0
HasFailedWith read put held held' cause = held.counts.failed cause < failed_with read put held' cause

-- nothing has
abbrev pub HasNotFailedWith : ℕ → ℕ → OpenFiles → OpenFiles → Type 0
HasNotFailedWith read put held held' =
    (cause : runs.Cause) → failed_with read put held' cause ≡ held.counts.failed cause

-- the last of pieces from this one on
abbrev pub last_from : ℕ → ℕ → ℕ
last_from from count = min (from - 1 + count) (2 ^ 32 - 1)

-- the result of delivering pieces from this one on, where there may be a cause that came before what stopped them
abbrev pub told : Result Delivered FlashFault → ℕ → Option Cause → Result Delivered FlashFault
told delivered from None = delivered
told (Ok d) from (Some first) = Err (flashes.Stopped (last_from from d.pieces) first)
told (Err (flashes.Stopped piece cause)) from (Some first) = Err (flashes.Stopped piece first)
told (Err fault) from (Some first) = Err fault

-- how many pieces were delivered
abbrev pub count_delivered : Result Delivered FlashFault → Result ℕ SparseCommandFault
count_delivered (Ok d) = Ok d.pieces
count_delivered (Err fault) = Err (faults.Flash fault)
