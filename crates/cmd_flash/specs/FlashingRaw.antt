-- What the command `flash --raw` leaves of files, and what it prints.
use Rattle.std.specs.Prelude.{◌≡◌, ℕ, ◌+◌, ◌*◌, ◌≤◌, ◌<◌, ◌⊎◌, List, [], ◌∷◌, ◌++◌, length, take}
use Rattle.std.specs.Prelude.{Result, Ok, Err}
use Rattle.abt_io.specs.Moment.{in_range, put_at}
use Rattle.abt_sparse.specs.Block.{filled_to}
use Rattle.abt_runs.specs.Raw.{RefusedRaw}
use Rattle.abt_runs.specs.declared.part.RunFault.{RunFault}
use Rattle.abt_runs.specs.declared.part.RunFault.TheVariants as of_runs
use Rattle.abt_flash.specs.Raw.{IsFilled}
use Rattle.abt_flash_faults.specs.declared.fault.FlashFault.{FlashFault}
use Rattle.abt_flash_faults.specs.declared.fault.FlashFault.TheVariants as flashes
use Rattle.sys_disk.specs.Counts.{Cause, reading, writing}
use Rattle.sys_disk.specs.World.{World, OpenFiles, HasFailed}
use Rattle.sys_refusals.specs.declared.refusal.HostFault.TheVariants as hosts
use Rattle.cmd_common_sparse.specs.declared.fault.SparseCommandFault.{SparseCommandFault}
use Rattle.cmd_common_sparse.specs.declared.fault.SparseCommandFault.TheVariants as faults
use Rattle.cmd_common_sparse.specs.declared.lines.Line.TheVariants as lines
use Rattle.cmd_common_sparse.specs.Lines.{line_text}
use Rattle.cmd_flash.specs.Files.{Between, FailsAround, HoldsBut, OnClosed}

-- ---- one image, over what held p and holds p' then

-- x fills n blocks of b bytes, the last of them perhaps in part. They fit, and p' is p whose beginning is overwritten
-- by x and zeros up to the end of the blocks.
pub record IsFlashedRaw (n b : ℕ) (x p p' : List ℕ) : Type 0 where
  pub filled : IsFilled n b (length x)
  pub fits : n * b ≤ length p
  pub holds : p' ≡ put_at p 0 (filled_to (n * b) x)

-- the blocks of x need this many bytes, and p has fewer; nothing was written
pub record HasNoRoomRaw (need b : ℕ) (x p p' : List ℕ) : Type 0 where
  pub blocks : ℕ
  pub filled : IsFilled blocks b (length x)
  pub needs : need ≡ blocks * b
  pub short : length p < need
  pub kept : p' ≡ p

-- it is flashed, as this many blocks
abbrev pub IsFlashedWholeRaw : ℕ → List ℕ → List ℕ → List ℕ → Type 0
IsFlashedWholeRaw b x p p' = (blocks : ℕ) × IsFlashedRaw blocks b x p p'

-- p' is p whose beginning is overwritten by the first bytes of x, except for this many bytes after these. They are the
-- `got` bytes of x that were read, or these without a window that was being written.
pub record IsLaidInPart (torn got : ℕ) (x p p' : List ℕ) : Type 0 where
  pub laid : ℕ
  pub within : laid ≤ length x
  pub most : laid ≤ got
  pub least : got ≤ laid + torn
  pub holds : HoldsBut (in_range laid torn) (put_at p 0 (take laid x)) p'

-- it has no such blocks, or too many, and nothing was written; or it could not be read
abbrev pub IsUnopened : (Cause → Type 0) → ℕ → RunFault → ℕ → List ℕ → List ℕ → List ℕ → Type 0
IsUnopened failed got (of_runs.Read d) b x p p' = failed reading × IsLaidInPart 0 got x p p'
IsUnopened failed got f b x p p' = RefusedRaw f b (length x) × (p' ≡ p)

-- There is no room, or a device has failed: writing a window, or syncing all.
abbrev pub IsUnlaid : (Cause → Type 0) → ℕ → FlashFault → ℕ → List ℕ → List ℕ → List ℕ → Type 0
IsUnlaid failed got (flashes.PartitionTooSmall need) b x p p' = HasNoRoomRaw need b x p p'
IsUnlaid failed got (flashes.Write d) b x p p' = failed writing × IsLaidInPart 65536 got x p p'
IsUnlaid failed got (flashes.Sync d) b x p p' = failed writing × IsFlashedWholeRaw b x p p'
IsUnlaid failed got f b x p p' = ⊥

-- what the call returns of x, of which it read so many bytes, over a partition that held p and then holds p'
abbrev pub IsUnflashedRaw : (Cause → Type 0) → ℕ → SparseCommandFault → ℕ → List ℕ → List ℕ → List ℕ → Type 0
IsUnflashedRaw failed got (faults.Run f) b x p p' = IsUnopened failed got f b x p p'
IsUnflashedRaw failed got (faults.Flash f) b x p p' = IsUnlaid failed got f b x p p'
IsUnflashedRaw failed got f b x p p' = ⊥

abbrev pub LaysRaw : (Cause → Type 0) → ℕ → Result ℕ SparseCommandFault → ℕ → List ℕ → List ℕ → List ℕ → Type 0
LaysRaw failed got (Ok n) b x p p' = IsFlashedRaw n b x p p'
LaysRaw failed got (Err f) b x p p' = IsUnflashedRaw failed got f b x p p'

-- why it is not flashed in a run, which has counted how many bytes of x were read
abbrev pub IsUnflashedRawThen : OpenFiles → OpenFiles → SparseCommandFault → ℕ → List ℕ → List ℕ → List ℕ → Type 0
IsUnflashedRawThen held held' f b x p p' =
    (got : ℕ) × (held'.counts.given ≡ held.counts.given + got)
    × IsUnflashedRaw (λ cause. HasFailed cause held held') got f b x p p'

-- ---- of files

-- The one file held a raw image whose blocks fit. The other begins with it, with zeros up to a whole block, and else
-- holds what it held. It was synced after its last byte. The line that was printed has the number of blocks.
pub record FlashesRawFile (size : ℕ) (input partition : List ℕ) (old new : World) (syncs syncs' : ℕ)
    (shows : List ℕ → Type 0) : Type 0 where
  pub blocks : ℕ
  pub flashed : Between input partition old new (IsFlashedRaw blocks size)
  pub synced : syncs' ≡ syncs + 1
  pub shown : shows (line_text (lines.Blocks blocks) ++ (10 ∷ []))

-- all was done, and PARTITION closed, but its line is untold
abbrev pub FlashesRawUntold : ℕ → List ℕ → List ℕ → World → World → OpenFiles → OpenFiles → (List ℕ → Type 0) → Type 0
FlashesRawUntold size input partition old new held held' untold =
    OnClosed held' (FlashesRawFile size input partition old new held.syncs held'.syncs untold)

-- why the command fails: for what the files hold; or a file or a device has failed; or a write of the report
abbrev pub RefusesFlashRaw : SparseCommandFault → ℕ → List ℕ → List ℕ → World → World → OpenFiles → OpenFiles
    → (List ℕ → Type 0) → Type 0
RefusesFlashRaw (faults.Host f) size input partition old new held held' untold =
    FailsAround f partition old new held held' (Between input partition old new (IsFlashedWholeRaw size))
    ⊎ ((f ≡ hosts.Write) × FlashesRawUntold size input partition old new held held' untold)
RefusesFlashRaw f size input partition old new held held' untold =
    OnClosed held' (Between input partition old new (IsUnflashedRawThen held held' f size))
