-- What the command `flash` of a sparse image leaves of files, and what it prints.
use Rattle.std.specs.Prelude.{◌≡◌, ℕ, ◌+◌, ◌*◌, ◌≤◌, ◌<◌, ◌⊎◌, List, [], ◌∷◌, ◌++◌, length, take, Option}
use Rattle.std.specs.Prelude.{Result, Ok, Err, IsTrue, OnOk}
use Rattle.abt_io.specs.declared.device.Source as sources
use Rattle.abt_io.specs.declared.device.Partition as partitions
use Rattle.abt_sparse.specs.declared.fault.SparseFault.{SparseFault}
use Rattle.abt_sparse.specs.Chunk.{Header, Chunk, classed}
use Rattle.abt_sparse.specs.Fails.{Fails, Spells, SpellsHeader}
use Rattle.abt_sparse.specs.Pieces.{flashed, given}
use Rattle.abt_sparse.specs.Reading.{outcome}
use Rattle.abt_pieces.specs.Contents.{written_in}
use Rattle.abt_flash.specs.Flashing.{IsLaidSoFar}
use Rattle.abt_flash.specs.Laying.{writes}
use Rattle.abt_flash_faults.specs.declared.fault.FlashFault.{FlashFault}
use Rattle.abt_flash_faults.specs.declared.fault.FlashFault.TheVariants as flashes
use Rattle.sys_disk.specs.Counts.{Cause, reading, writing}
use Rattle.sys_disk.specs.World.{World, OpenFiles, HasFailed}
use Rattle.sys_refusals.specs.declared.refusal.HostFault.TheVariants as hosts
use Rattle.cmd_common_sparse.specs.declared.fault.SparseCommandFault.{SparseCommandFault}
use Rattle.cmd_common_sparse.specs.declared.fault.SparseCommandFault.TheVariants as faults
use Rattle.cmd_common_sparse.specs.declared.lines.Line.TheVariants as lines
use Rattle.cmd_common_sparse.specs.Lines.{line_text}
use Rattle.cmd_flash.specs.Files.{Between, FailsAround, HoldsBut, OnClosed}

-- ---- one image, over what held p and holds p' then

-- x begins with an image that has n raw and fill blocks. It fits, and p' is the result of flashing it over p.
pub record IsFlashed (n : ℕ) (x p p' : List ℕ) : Type 0 where
  pub header : Header
  pub chunks : List Chunk
  pub rest : List ℕ
  pub spelled : Spells x header chunks rest
  pub fits : header.total_blks * header.blk_sz ≤ length p
  pub blocks : n ≡ written_in (classed chunks)
  pub holds : p' ≡ flashed p x

-- x has this fault, and p' is p overwritten by what comes before the fault
pub record IsFlashedUpTo (f : SparseFault) (x p p' : List ℕ) : Type 0 where
  pub given : List (Option ℕ)
  pub fails : Fails x f given
  pub holds : p' ≡ flashed p x

-- the image at the beginning of x needs this many bytes, and p has fewer; nothing was written
pub record HasNoRoom (need : ℕ) (x p p' : List ℕ) : Type 0 where
  pub header : Header
  pub behind : List ℕ
  pub spelled : SpellsHeader x header behind
  pub needs : need ≡ header.total_blks * header.blk_sz
  pub short : length p < need
  pub kept : p' ≡ p

-- `got` bytes of x were read: an image, or what comes before its fault, or the beginning of these. p' equals p wherever
-- they write nothing. What they write is there, but for less than a window at its end, and p' equals p behind it, save
-- for up to this many bytes.
pub record IsFlashedInPart (torn got : ℕ) (x p p' : List ℕ) : Type 0 where
  pub others : HoldsBut (writes (given (outcome (take got x)))) p p'
  pub front : IsLaidSoFar torn got x p p'

-- it is flashed, as this many blocks
abbrev pub IsFlashedWhole : List ℕ → List ℕ → List ℕ → Type 0
IsFlashedWhole x p p' = (blocks : ℕ) × IsFlashed blocks x p p'

-- Why it is not flashed, where so many bytes of x were read: the first fault of x, no room, or the fault of a device
-- where one has failed. After a failed sync everything is written. After a failed read or write what was read is; a
-- write may have left up to a window of anything behind that.
abbrev pub IsUnflashed : (Cause → Type 0) → ℕ → FlashFault → List ℕ → List ℕ → List ℕ → Type 0
IsUnflashed failed got (flashes.Sparse f) x p p' = IsFlashedUpTo f x p p'
IsUnflashed failed got (flashes.PartitionTooSmall need) x p p' = HasNoRoom need x p p'
IsUnflashed failed got (flashes.Read d) x p p' = failed reading × IsFlashedInPart 0 got x p p'
IsUnflashed failed got (flashes.Write d) x p p' = failed writing × IsFlashedInPart 65536 got x p p'
IsUnflashed failed got (flashes.Sync d) x p p' = failed writing × IsFlashedWhole x p p'
IsUnflashed failed got f x p p' = ⊥

-- the same of a run, which has counted how many bytes of x were read
abbrev pub IsUnflashedThen : OpenFiles → OpenFiles → FlashFault → List ℕ → List ℕ → List ℕ → Type 0
IsUnflashedThen held held' f x p p' =
    (got : ℕ) × (held'.counts.given ≡ held.counts.given + got)
    × IsUnflashed (λ cause. HasFailed cause held held') got f x p p'

-- the partition keeps its length; after an Ok it was synced once, after its last byte
pub record SyncsOnce {X F : Type 0} (r : Result X F) {C : Type 0} (s : sources.Ghosts C) (p : partitions.Ghosts C)
    (old new : C) : Type 0 where
  pub synced : OnOk r ((p.past new).synced ≡ (p.past old).synced + 1)
  pub settled : IsTrue s.models → OnOk r ((p.past new).pending ≡ [])
  pub size : s.size new ≡ s.size old

-- ---- of files

-- The one file held an image that fits. The other holds the result of flashing it over what it held, and was synced
-- after its last byte. The line that was printed has the number of the image's raw and fill blocks.
pub record FlashesFile (input partition : List ℕ) (old new : World) (syncs syncs' : ℕ) (shows : List ℕ → Type 0)
    : Type 0 where
  pub blocks : ℕ
  pub flashed : Between input partition old new (IsFlashed blocks)
  pub synced : syncs' ≡ syncs + 1
  pub shown : shows (line_text (lines.Blocks blocks) ++ (10 ∷ []))

-- all was done, and PARTITION closed, but its line is untold
abbrev pub FlashesUntold : List ℕ → List ℕ → World → World → OpenFiles → OpenFiles → (List ℕ → Type 0) → Type 0
FlashesUntold input partition old new held held' untold =
    OnClosed held' (FlashesFile input partition old new held.syncs held'.syncs untold)

-- why the command fails: for what the files hold; or a file or a device has failed; or a write of the report
abbrev pub RefusesFlash : SparseCommandFault → List ℕ → List ℕ → World → World → OpenFiles → OpenFiles
    → (List ℕ → Type 0) → Type 0
RefusesFlash (faults.Flash f) input partition old new held held' untold =
    OnClosed held' (Between input partition old new (IsUnflashedThen held held' f))
RefusesFlash (faults.Host f) input partition old new held held' untold =
    FailsAround f partition old new held held' (Between input partition old new IsFlashedWhole)
    ⊎ ((f ≡ hosts.Write) × FlashesUntold input partition old new held held' untold)
RefusesFlash f input partition old new held held' untold = ⊥

-- what the call returns of x, of which it read so many bytes, over a partition that held p and then holds p'
abbrev pub Lays : (Cause → Type 0) → ℕ → Result ℕ SparseCommandFault → List ℕ → List ℕ → List ℕ → Type 0
Lays failed got (Ok n) x p p' = IsFlashed n x p p'
Lays failed got (Err (faults.Flash f)) x p p' = IsUnflashed failed got f x p p'
Lays failed got (Err f) x p p' = ⊥
