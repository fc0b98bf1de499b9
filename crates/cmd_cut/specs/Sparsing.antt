-- What the command `sparse` leaves of files, and what it prints.
use Rattle.std.specs.Prelude.{◌≡◌, ◌≢◌, ◌<◌, ◌≤◌, ◌⊎◌, ◌+◌, ◌-◌, ◌*◌, ◌^◌, ℕ, List, [], ◌∷◌, ◌++◌, length, Bool, false}
use Rattle.std.specs.Prelude.{Option, Some, None, IsTrue, Result, OnOk, IfOk, IfErr, is_ok, if◌then◌else◌}
use Rattle.abt_sparse.specs.Chunk.{chunks_of, spelling}
use Rattle.abt_io.specs.declared.device.DeviceFault.{DeviceFault}
use Rattle.abt_io.specs.declared.device.Output as outputs
use Rattle.abt_runs.specs.declared.part.RunFault.{RunFault}
use Rattle.abt_runs.specs.Raw.{RefusedRaw}
use Rattle.abt_runs.specs.Tail.{raw_list}
use Rattle.abt_pieces.specs.declared.fault.PieceFault.{PieceFault}
use Rattle.abt_pieces.specs.declared.fault.PieceFault.TheVariants as pieces
use Rattle.abt_placed.specs.Unfinished.{IsNoImage}
use Rattle.abt_sparsify.specs.declared.count.Written.{Written}
use Rattle.sys_refusals.specs.declared.refusal.HostFault.TheVariants as hosts
use Rattle.sys_disk.specs.Counts.{Cause, Counts, call, reading, writing}
use Rattle.sys_disk.specs.World.{World, OpenFiles, ClosesOutput, KeepsFile, OnlyAt, Spares, SparesRest, HasFailed}
use Rattle.sys_disk.specs.World.{HasNotFailed, SparesInUse, ended, number_of}
use Rattle.cmd_common_sparse.specs.Blocks.{IsRawBlockSize, most_of}
use Rattle.cmd_common_sparse.specs.declared.blocks.Blocks.{Blocks}
use Rattle.cmd_common_sparse.specs.Lines.{line_text}
use Rattle.cmd_common_sparse.specs.declared.fault.SparseCommandFault.{SparseCommandFault}
use Rattle.cmd_common_sparse.specs.declared.fault.SparseCommandFault.TheVariants as faults
use Rattle.cmd_common_sparse.specs.declared.lines.Line.TheVariants as lines

-- the sparse image of these bytes in blocks of this size, in how many blocks and chunks; as img2simg makes it where t
-- says so: a last block that is filled up is raw, and raw chunks are as long as can be
abbrev pub image_of_raw : Bool → ℕ → List ℕ → List ℕ
image_of_raw t size x = spelling size (most_of t size) (raw_list t size x)

abbrev pub blocks_of_raw : Bool → ℕ → List ℕ → ℕ
blocks_of_raw t size x = length (raw_list t size x)

abbrev pub chunks_of_raw : Bool → ℕ → List ℕ → ℕ
chunks_of_raw t size x = length (chunks_of (most_of t size) (raw_list t size x))

-- The file at one path held bytes. The file at the other path is another file. It holds their sparse image and
-- nothing else. No other file has changed, and the line that was printed has the image's numbers.
pub record SparsifiesFile (input output : List ℕ) (t : Bool) (size : ℕ) (old new : World) (shows : List ℕ → Type 0)
    : Type 0 where
  pub from : ℕ
  pub onto : ℕ
  pub there : old.at input ≡ Some from
  pub here : new.at output ≡ Some onto
  pub apart : from ≢ onto
  pub sized : IsRawBlockSize size
  pub holds : new.holds onto ≡ image_of_raw t size (old.holds from)
  pub spares : Spares onto old new
  pub shown : shows (line_text (lines.Sparse (blocks_of_raw t size (old.holds from))
      (chunks_of_raw t size (old.holds from)) (length (new.holds onto))) ++ (10 ∷ []))

-- what is no image: it has fewer than four bytes, or no reader finds one, whatever follows
abbrev pub HoldsNoSparse : List ℕ → Type 0
HoldsNoSparse x = (length x < 4) ⊎ IsNoImage x

-- the file at this path holds the sparse image of what the file at the other one held
pub record HoldsImage (input : List ℕ) (t : Bool) (size : ℕ) (old : World) (bytes : List ℕ) : Type 0 where
  pub from : ℕ
  pub there : old.at input ≡ Some from
  pub holds : bytes ≡ image_of_raw t size (old.holds from)

-- whatever the outcome, the file at this path holds what it held, or what is no image, or the whole image
abbrev pub HoldsNoPartOfSparse : List ℕ → List ℕ → Bool → ℕ → World → World → Type 0
HoldsNoPartOfSparse input output t size old new = (file : ℕ) → new.at output ≡ Some file
    → (new.holds file ≡ old.holds file)
    ⊎ (HoldsNoSparse (new.holds file) ⊎ HoldsImage input t size old (new.holds file))

-- What is left, whatever the result, by a call that writes the sparse image of one file to another:
-- - Only the other may hold anything else, and not where it is in use and that is not allowed. The first holds what it
--   held.
-- - No output is open.
-- - A file that can be overwritten has no part of an image.
-- - After an Ok it was synced, where that is requested, and nothing has failed.
pub record LeavesImage {X F : Type 0} (r : Result X F) (from onto : List ℕ) (t : Bool) (size : ℕ)
    (is_over : Bool) (held held' : OpenFiles) (old new : World) : Type 0 where
  pub synced : OnOk r (held'.syncs ≡ held.syncs + (if held.is_synced then 1 else 0))
  pub others : OnlyAt held.read onto old new
  pub guarded : SparesInUse onto held old new
  pub input : KeepsFile from old new
  pub closed : held'.output ≡ None
  pub whole : IsTrue is_over → HoldsNoPartOfSparse from onto t size old new
  pub clean : OnOk r (HasNotFailed held held')

-- the file at this path has no blocks of this size, or too many, and nothing has changed
pub record HasNoBlocks (path : List ℕ) (size : ℕ) (old new : World) (fault : RunFault) : Type 0 where
  pub file : ℕ
  pub there : old.at path ≡ Some file
  pub fails : RefusedRaw fault size (length (old.holds file))
  pub untouched : new ≡ old

-- the fault is of a device that has failed: of reading one, or of writing one
abbrev pub IsOfPieceDevices : (Cause → Type 0) → PieceFault → Type 0
IsOfPieceDevices failed (pieces.Read f) = failed reading
IsOfPieceDevices failed (pieces.Write f) = failed writing
IsOfPieceDevices failed pieces.SourceChanged = ⊥
IsOfPieceDevices failed pieces.TooLarge = ⊥
IsOfPieceDevices failed (pieces.BadBlock n) = ⊥
IsOfPieceDevices failed (pieces.LimitTooSmall n) = ⊥

-- it is such a fault, or a call of the disk has returned it
abbrev pub IsOutsideSparse : (Cause → Type 0) → SparseCommandFault → Type 0
IsOutsideSparse failed (faults.Sparse f) = ⊥
IsOutsideSparse failed (faults.Run f) = ⊥
IsOutsideSparse failed (faults.Piece f) = IsOfPieceDevices failed f
IsOutsideSparse failed (faults.Flash f) = ⊥
IsOutsideSparse failed (faults.Verify f) = ⊥
IsOutsideSparse failed (faults.OtherBlocks image) = ⊥
IsOutsideSparse failed (faults.OtherCut image) = ⊥
IsOutsideSparse failed (faults.Host f) = failed (call f)

-- the block size doesn't fit the file at this path, and this is found before anything is changed; or the device failed
-- that the fault is of; or a call of the disk returned the fault; or it is `Write`, everything was done, and the line
-- could not be printed
abbrev pub RefusesRaw : List ℕ → ℕ → World → World → OpenFiles → OpenFiles → Type 0 → SparseCommandFault → Type 0
RefusesRaw path size old new held held' Done (faults.Run f) = HasNoBlocks path size old new f
RefusesRaw path size old new held held' Done (faults.Piece f) = IsOfPieceDevices (λ cause. HasFailed cause held held') f
RefusesRaw path size old new held held' Done (faults.Host f) = HasFailed (call f) held held'
    ⊎ ((f ≡ hosts.Write) × Done)
RefusesRaw path size old new held held' Done (faults.Sparse f) = ⊥
RefusesRaw path size old new held held' Done (faults.Flash f) = ⊥
RefusesRaw path size old new held held' Done (faults.Verify f) = ⊥
RefusesRaw path size old new held held' Done (faults.OtherBlocks image) = ⊥
RefusesRaw path size old new held held' Done (faults.OtherCut image) = ⊥

-- the open output was closed; writing it had failed this often, or more often in the end; no other file has changed
pub record GivesUp (faults : ℕ) (held held' : OpenFiles) (old new : World) : Type 0 where
  pub failures : Counts
  pub closed : held' ≡ ended false failures held
  pub least : faults ≤ failures.failed writing
  pub rest : SparesRest held.output old new

-- the fault that is told is this one, or that of an earlier write
pub data TellsFirst (fault told : SparseCommandFault) (Earlier : Type 0) : Type 0 where
  itself : told ≡ fault → TellsFirst fault told Earlier
  earlier : (f : DeviceFault) → told ≡ faults.Piece (pieces.Write f) → Earlier → TellsFirst fault told Earlier

-- a raw image of this many bytes can be written in these blocks
pub record FitsBlocks (t : Bool) (blocks : Blocks) (bytes : ℕ) : Type 0 where
  pub sized : IsRawBlockSize blocks.size
  pub most : blocks.most ≡ most_of t blocks.size
  pub few : bytes ≤ (2 ^ 32 - 1) * blocks.size

-- what is read is such an image, and has not failed
pub record ReadyRawImage (models t : Bool) (blocks : Blocks) (bytes reads : ℕ) : Type 0 where
  pub fits : FitsBlocks t blocks bytes
  pub read : IsTrue models → reads ≡ 0

-- nothing was written yet to the output that is open, and nothing has failed
pub record ReadyOutput {B : Type 0} (models : Bool) (o : outputs.Ghosts B) (onto : B) (is_open : Option ℕ)
    : Type 0 where
  pub empty : o.written onto ≡ []
  pub clean : IsTrue models → o.write_faults onto ≡ 0
  pub this : IsTrue models → (o.write_frame onto).file ≡ number_of is_open

-- both
pub record ReadyToWrite {B : Type 0} (models t : Bool) (blocks : Blocks) (bytes reads : ℕ) (o : outputs.Ghosts B)
    (onto : B) (is_open : Option ℕ) : Type 0 where
  pub image : ReadyRawImage models t blocks bytes reads
  pub output : ReadyOutput models o onto is_open

-- such an image can be written to an empty output
pub record ReadyToLay (t : Bool) (blocks : Blocks) (bytes : ℕ) (written : List ℕ) : Type 0 where
  pub fits : FitsBlocks t blocks bytes
  pub empty : written ≡ []

-- of two devices that had failed so often before, and have now, the one that was read has failed more, or the one that
-- was written
abbrev pub DevicesFail : ℕ → ℕ → ℕ → ℕ → Cause → Type 0
DevicesFail reads reads' writes writes' (call f) = ⊥
DevicesFail reads reads' writes writes' reading = reads < reads'
DevicesFail reads reads' writes writes' writing = writes < writes'

-- none of them has failed more where all was done; and where it was not, the one has that the fault is of
pub record OnlyDevicesFail {X : Type 0} (r : Result X SparseCommandFault) (models : Bool)
    (reads reads' writes writes' : ℕ) : Type 0 where
  pub clean : OnOk r ((reads' ≡ reads) × (writes' ≡ writes))
  pub cause : IsTrue models → IfErr r (IsOutsideSparse (DevicesFail reads reads' writes writes'))

-- these are the numbers of the sparse image of these bytes, and it was written to an empty output
pub record IsWritten (t : Bool) (size : ℕ) (x : List ℕ) (a : Written) (bytes : List ℕ) : Type 0 where
  pub blocks : a.blocks ≡ blocks_of_raw t size x
  pub chunks : a.chunks ≡ chunks_of_raw t size x
  pub long : a.bytes ≡ length bytes
  pub holds : bytes ≡ image_of_raw t size x

-- what a call leaves that writes it, of devices that had failed so often before, and have now
pub record LaysSparseImage (r : Result Written SparseCommandFault) (models t : Bool) (size : ℕ) (x bytes : List ℕ)
    (reads reads' writes writes' : ℕ) : Type 0 where
  pub written : IsTrue models → IfOk r (λ a. IsWritten t size x a bytes)
  pub fails : OnlyDevicesFail r models reads reads' writes writes'

-- the output that was open holds the sparse image of these bytes, which has these numbers
abbrev pub HoldsWritten : Bool → ℕ → List ℕ → Written → Option ℕ → World → World → Type 0
HoldsWritten t size x a None old new = Unit {0}
HoldsWritten t size x a (Some file) old new = IsWritten t size x a (new.holds file) × Spares file old new

-- the open output holds either all of the sparse image of these bytes, or no sparse image
abbrev pub LeavesNoneOrSparse : Bool → ℕ → List ℕ → Option ℕ → World → Type 0
LeavesNoneOrSparse t size x None new = Unit {0}
LeavesNoneOrSparse t size x (Some file) new = HoldsNoSparse (new.holds file)
    ⊎ (new.holds file ≡ image_of_raw t size x)

-- The open output is completed and closed. After an Ok it holds the sparse image of these bytes, which has these
-- numbers. No other file has changed. After an Err the device has failed that the fault is of, or a call of the disk
-- has returned it.
pub record WritesSparseImage {F : Type 0} (r : Result (Written × Bool) F) (fault : F → SparseCommandFault) (t : Bool)
    (size : ℕ) (x : List ℕ) (held held' : OpenFiles) (old new : World) : Type 0 where
  pub holds : IfOk r (λ end. HoldsWritten t size x end.0 held.output old new)
  pub closed : ClosesOutput (is_ok r) held held'
  pub rest : SparesRest held.output old new
  pub outside : IfErr r (λ refusal. IsOutsideSparse (λ cause. HasFailed cause held held') (fault refusal))
