-- What the command `flash` in pieces leaves of files, and what it prints.
use Rattle.std.specs.Prelude.{◌≡◌, ◌≢◌, ℕ, ◌+◌, ◌-◌, ◌≤◌, ◌<◌, ◌⊎◌, List, [], ◌∷◌, ◌++◌, length, Option, Some, None}
use Rattle.std.specs.Prelude.{true, IsTrue, Result, Ok, Err, OnOk, IfOk, is_some}
use Rattle.abt_io.specs.declared.device.Source as sources
use Rattle.abt_io.specs.declared.device.Partition as partitions
use Rattle.abt_sparse.specs.Block.{cells, over}
use Rattle.abt_sparse.specs.Mending.{Mendable}
use Rattle.abt_flash.specs.declared.answer.Delivered.{Delivered}
use Rattle.abt_flash_faults.specs.declared.fault.FlashFault.{FlashFault}
use Rattle.abt_flash_faults.specs.declared.fault.FlashFault.TheVariants as flashes
use Rattle.abt_flash.specs.Delivering.{ImageBlocks, blocks_behind, blocks_in_first, pieces_in}
use Rattle.abt_flash.specs.Devices.{Counts}
use Rattle.abt_flash.specs.Raw.{IsAllowed, RawRefused, raw_image}
use Rattle.abt_flash.specs.Sparse.{Fits, SparseRefused, sparse_image}
use Rattle.abt_flash_faults.specs.declared.fault.Cause.{Cause}
use Rattle.abt_flash_faults.specs.declared.fault.Cause.TheVariants as causes
use Rattle.sys_refusals.specs.declared.refusal.HostFault.TheVariants as hosts
use Rattle.sys_disk.specs.Counts as runs
use Rattle.sys_disk.specs.World.{World, OpenFiles, SparesInUse, HasFailed}
use Rattle.cmd_common_sparse.specs.Blocks.{RefusedCut}
use Rattle.cmd_common_sparse.specs.declared.fault.SparseCommandFault.{SparseCommandFault}
use Rattle.cmd_common_sparse.specs.declared.fault.SparseCommandFault.TheVariants as faults
use Rattle.cmd_common_sparse.specs.declared.lines.Line.TheVariants as lines
use Rattle.cmd_common_sparse.specs.Lines.{line_text}
use Rattle.cmd_flash.specs.Files.{FailsAround, OfFile, OnClosed}

-- ---- the image that bytes are: a sparse one at their beginning, or a raw one in blocks of this many bytes

abbrev pub image_as : Option ℕ → List ℕ → ImageBlocks
image_as None x = sparse_image x
image_as (Some size) x = raw_image size x

-- they are an image, the limit has room for each of its blocks, and this many bytes have room for all
abbrev pub IsWhole : Option ℕ → List ℕ → ℕ → ℕ → Type 0
IsWhole None x limit room = Fits x limit room
IsWhole (Some size) x limit room = IsAllowed size x (length x) limit room true

-- why it is not delivered after its first pieces, `before`, by the engine's definition for devices that model bytes
abbrev pub IsRefused : Option ℕ → FlashFault → List ℕ → ℕ → ℕ → ℕ → Counts → Counts → Type 0
IsRefused None fault x limit room before a z = SparseRefused fault x limit room before true true a z
IsRefused (Some size) fault x limit room before a z =
    RawRefused fault size x (length x) limit room before true true a z

-- q holds the first `done` pieces of the image x over p, and any bytes for all others: continuing after them repairs it
abbrev pub StandsUpTo : Option ℕ → ℕ → ℕ → List ℕ → List ℕ → List ℕ → Type 0
StandsUpTo raw limit done x p q =
    Mendable (image_as raw x).size (image_as raw x).blocks p q
    (blocks_in_first limit (image_as raw x).size (image_as raw x).blocks done)

-- ---- one image x, over what held p and holds p' then

-- x is an image that fits, of which n pieces were written after the first ones. p' is p overwritten by the blocks of
-- these n. It is also any q overwritten by the whole image, where p held the first pieces over q.
pub record IsDelivered (raw : Option ℕ) (limit before n : ℕ) (x p p' : List ℕ) : Type 0 where
  pub whole : IsWhole raw x limit (length p)
  pub counts : before + n ≡ pieces_in limit (image_as raw x)
  pub holds : p' ≡ over p (cells (image_as raw x).size
      (blocks_behind (blocks_in_first limit (image_as raw x).size (image_as raw x).blocks before)
      (image_as raw x).blocks))
  pub mends : (q : List ℕ) (done : ℕ) → before ≤ done → StandsUpTo raw limit done x q p
      → p' ≡ over q (cells (image_as raw x).size (image_as raw x).blocks)

-- all of its pieces after the first ones were written
abbrev pub IsDeliveredWhole : Option ℕ → ℕ → ℕ → List ℕ → List ℕ → List ℕ → Type 0
IsDeliveredWhole raw limit before x p p' = (pieces : ℕ) × IsDelivered raw limit before pieces x p p'

-- What has failed where a piece was stopped for this: a device that was read or written, or the call that closes the
-- file that pieces went through. A source and a spool that are modelled do not change.
abbrev pub StoppedBy : (runs.Cause → Type 0) → Cause → Type 0
StoppedBy failed (causes.Read d) = failed runs.reading
StoppedBy failed (causes.Write d) = failed runs.writing
StoppedBy failed (causes.Sync d) = failed runs.writing
StoppedBy failed (causes.SpoolRead d) = failed runs.reading
StoppedBy failed (causes.SpoolWrite d) = failed runs.writing ⊎ failed (runs.call hosts.Write)
StoppedBy failed causes.SourceChanged = ⊥
StoppedBy failed causes.SpoolChanged = ⊥

-- a device has failed in piece j of an image that fits; the pieces before it are stored, where the earlier ones were
pub record IsStopped (failed : Type 0) (raw : Option ℕ) (limit before j : ℕ) (x p p' : List ℕ) : Type 0 where
  pub whole : IsWhole raw x limit (length p)
  pub cause : failed
  pub behind : before < j
  pub few : j ≤ pieces_in limit (image_as raw x)
  pub stands : (q : List ℕ) (done : ℕ) → before ≤ done → StandsUpTo raw limit done x q p
      → StandsUpTo raw limit (j - 1) x q p'

-- nothing was written, because of x, the limit, no room, or no such piece
pub record IsEarly (raw : Option ℕ) (fault : FlashFault) (limit before : ℕ) (x p p' : List ℕ) : Type 0 where
  pub counts : Counts
  pub counts' : Counts
  pub refused : IsRefused raw fault x limit (length p) before counts counts'
  pub kept : p' ≡ p

-- why it is not delivered: it was stopped in a piece; or nothing was written, because a device has failed, or because
-- of x, the limit, no room, or no such piece, as the engine defines it
abbrev pub IsUndelivered : (runs.Cause → Type 0) → Option ℕ → FlashFault → ℕ → ℕ → List ℕ → List ℕ → List ℕ → Type 0
IsUndelivered failed raw (flashes.Stopped j cause) limit before x p p' =
    IsStopped (StoppedBy failed cause) raw limit before j x p p'
IsUndelivered failed raw (flashes.Read d) limit before x p p' = failed runs.reading × (p' ≡ p)
IsUndelivered failed raw fault limit before x p p' = IsEarly raw fault limit before x p p'

-- what the call returns of x
abbrev pub DeliversPieces : (runs.Cause → Type 0) → Option ℕ → Result Delivered FlashFault → ℕ → ℕ → List ℕ → List ℕ
    → List ℕ → Type 0
DeliversPieces failed raw (Ok d) limit before x p p' = IsDelivered raw limit before d.pieces x p p'
DeliversPieces failed raw (Err fault) limit before x p p' = IsUndelivered failed raw fault limit before x p p'

-- the partition keeps its length; where pieces were delivered, at least one, it was synced after each
pub record SyncsPieces {F : Type 0} (r : Result Delivered F) {C : Type 0} (s : sources.Ghosts C)
    (p : partitions.Ghosts C) (old new : C) : Type 0 where
  pub some : IfOk r (λ d. 0 < d.pieces)
  pub synced : IfOk r (λ d. (p.past new).synced ≡ (p.past old).synced + d.pieces)
  pub settled : IsTrue s.models → OnOk r ((p.past new).pending ≡ [])
  pub size : s.size new ≡ s.size old

-- ---- of files

-- The files at three paths are three; the third may be new. P holds of what the first held, and of what the second held
-- and holds now.
pub record Across (input partition spool : List ℕ) (old new : World) (P : List ℕ → List ℕ → List ℕ → Type 0)
    : Type 0 where
  pub from : ℕ
  pub onto : ℕ
  pub through : ℕ
  pub there : old.at input ≡ Some from
  pub here : old.at partition ≡ Some onto
  pub third : new.at spool ≡ Some through
  pub apart : from ≢ onto
  pub apart_from : from ≢ through
  pub apart_onto : onto ≢ through
  pub so : P (old.holds from) (old.holds onto) (new.holds onto)

-- every path leads where it led, and each file holds what it held but maybe those at two paths, of which the second may
-- be new; but none has changed where one of these is in use and that is not allowed
pub record SparesBoth (partition spool : List ℕ) (held : OpenFiles) (old new : World) : Type 0 where
  pub paths : (path : List ℕ) (file : ℕ) → old.at path ≡ Some file → new.at path ≡ Some file
  pub files : (file : ℕ) → ¬ (old.at partition ≡ Some file) → ¬ (new.at spool ≡ Some file)
      → new.holds file ≡ old.holds file
  pub in_use : SparesInUse partition held old new
  pub spool_in_use : SparesInUse spool held old new

-- An image that fits was delivered after its first pieces, and PARTITION was synced after its last byte. SPOOL kept its
-- pages where the image was raw, and not where it was sparse. The line that was printed has the number of the pieces
-- that were written.
pub record FlashesPieces (raw : Option ℕ) (limit before : ℕ) (input partition spool : List ℕ) (old new : World)
    (held held' : OpenFiles) (shows : List ℕ → Type 0) : Type 0 where
  pub pieces : ℕ
  pub delivered : Across input partition spool old new (IsDelivered raw limit before pieces)
  pub synced : held'.syncs ≡ held.syncs + 1
  pub kept : held'.keeps ≡ is_some raw
  pub shown : shows (line_text (lines.Pieces pieces) ++ (10 ∷ []))

-- all was done, and PARTITION closed, but its line is untold
abbrev pub FlashesPiecesUntold : Option ℕ → ℕ → ℕ → List ℕ → List ℕ → List ℕ → World → World → OpenFiles → OpenFiles
    → (List ℕ → Type 0) → Type 0
FlashesPiecesUntold raw limit before input partition spool old new held held' untold =
    OnClosed held' (FlashesPieces raw limit before input partition spool old new held held' untold)

-- of a raw image: no image has such blocks, or the limit has no room for one
abbrev pub IsUncuttable : Option ℕ → SparseCommandFault → ℕ → List ℕ → Type 0
IsUncuttable raw fault limit x = (size : ℕ) × (raw ≡ Some size) × RefusedCut fault size (length x) limit

-- why the command fails: for what the files hold; or a file or a device has failed; or a write of the report
abbrev pub RefusesPieces : SparseCommandFault → Option ℕ → ℕ → ℕ → List ℕ → List ℕ → List ℕ → World → World → OpenFiles
    → OpenFiles → (List ℕ → Type 0) → Type 0
RefusesPieces (faults.Flash f) raw limit before input partition spool old new held held' untold =
    OnClosed held' (Across input partition spool old new
    (IsUndelivered (λ cause. HasFailed cause held held') raw f limit before))
RefusesPieces (faults.Host f) raw limit before input partition spool old new held held' untold =
    FailsAround f partition old new held held'
    (Across input partition spool old new (IsDeliveredWhole raw limit before))
    ⊎ ((f ≡ hosts.Write) × FlashesPiecesUntold raw limit before input partition spool old new held held' untold)
RefusesPieces fault raw limit before input partition spool old new held held' untold =
    OfFile input old (IsUncuttable raw fault limit) × (new ≡ old)
