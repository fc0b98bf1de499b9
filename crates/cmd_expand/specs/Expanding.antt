-- What the command `expand` leaves of files, and what it prints.
use Rattle.std.specs.Prelude.{◌≡◌, ◌≢◌, ◌⊎◌, ℕ, ◌+◌, ◌-◌, ◌*◌, ◌<◌, List, [], ◌∷◌, ◌++◌, Option, Some, None}
use Rattle.std.specs.Prelude.{Result, Ok, Err, OnOk, take}
use Rattle.abt_sparse.specs.declared.fault.SparseFault.{SparseFault}
use Rattle.abt_sparse.specs.declared.fault.SparseFault.TheVariants as of_sparse
use Rattle.abt_sparse.specs.Block.{expansion, laid}
use Rattle.abt_sparse.specs.Chunk.{Header, Chunk, classed}
use Rattle.abt_sparse.specs.Fails.{Fails, Spells}
use Rattle.abt_chunks.specs.declared.progress.Expanded.{Expanded}
use Rattle.abt_chunks.specs.Expanding.{UnlessExpandingDevice}
use Rattle.abt_chunks.specs.Whole.{AlmostWhole, Begun, Expansion, Refusal}
use Rattle.sys_disk.specs.Among.{FileHolds, FileHoldsMost}
use Rattle.sys_disk.specs.Counts.{Cause, call, of_reading, reading, writing}
use Rattle.sys_disk.specs.World.{World, OpenFiles, KeepsFile, OnlyAt, Spares, SparesInUse, HasFailed, HasNotFailed}
use Rattle.sys_refusals.specs.declared.refusal.HostFault.{HostFault}
use Rattle.sys_refusals.specs.declared.refusal.HostFault.TheVariants as hosts
use Rattle.cmd_common_sparse.specs.declared.fault.SparseCommandFault.{SparseCommandFault}
use Rattle.cmd_common_sparse.specs.declared.fault.SparseCommandFault.TheVariants as faults
use Rattle.cmd_common_sparse.specs.declared.lines.Line.TheVariants as lines
use Rattle.cmd_common_sparse.specs.Lines.{line_text}

-- what expanding an input x returns and writes
abbrev pub ExpandingSays : Result Expanded SparseCommandFault → List ℕ → List ℕ → List ℕ → Type 0
ExpandingSays (Ok e) x old new = (rest : List ℕ) × Expansion e old new x rest
ExpandingSays (Err (faults.Sparse f)) x old new = UnlessExpandingDevice f (Refusal f old new x)
ExpandingSays (Err (faults.Run f)) x old new = ⊥
ExpandingSays (Err (faults.Piece f)) x old new = ⊥
ExpandingSays (Err (faults.Flash f)) x old new = ⊥
ExpandingSays (Err (faults.Verify f)) x old new = ⊥
ExpandingSays (Err (faults.OtherBlocks image)) x old new = ⊥
ExpandingSays (Err (faults.OtherCut image)) x old new = ⊥
ExpandingSays (Err (faults.Host f)) x old new = ⊥

-- a fault of files, of a call that has failed with it
abbrev pub FromCall : SparseCommandFault → OpenFiles → OpenFiles → Type 0
FromCall f held held' = (host : HostFault) × (f ≡ faults.Host host) × HasFailed (call host) held held'

-- what the file at this path holds has this fault
pub record HasFault (path : List ℕ) (world : World) (f : SparseFault) : Type 0 where
  pub file : ℕ
  pub there : world.at path ≡ Some file
  pub given : List (Option ℕ)
  pub fails : Fails (world.holds file) f given

-- where a device failed, its cause has failed, and of any other fault so much is so
abbrev pub OfDevice : SparseFault → (Cause → Type 0) → Type 0 → Type 0
OfDevice (of_sparse.Read d) failed P = failed reading
OfDevice (of_sparse.Write d) failed P = failed writing
OfDevice f failed P = P

-- how often devices failed: the input's faults went from r to r', the output's from w to w'
abbrev pub BlamesDevice : SparseFault → ℕ → ℕ → ℕ → ℕ → Type 0
BlamesDevice (of_sparse.Read d) r r' w w' = (r < r') × (w' ≡ w)
BlamesDevice (of_sparse.Write d) r r' w w' = (r' ≡ r) × (w < w')
BlamesDevice f r r' w w' = Unit {0}

abbrev pub Blames : Result Expanded SparseCommandFault → ℕ → ℕ → ℕ → ℕ → Type 0
Blames (Ok e) r r' w w' = (r' ≡ r) × (w' ≡ w)
Blames (Err (faults.Sparse f)) r r' w w' = BlamesDevice f r r' w w'
Blames (Err f) r r' w w' = Unit {0}

-- The file at one path held an image. The file at the other path holds its expansion and nothing else. No other file
-- has changed, and the line that was printed has the image's numbers.
pub record ExpandsFile (input output : List ℕ) (old new : World) (shows : List ℕ → Type 0) : Type 0 where
  pub from : ℕ
  pub onto : ℕ
  pub there : old.at input ≡ Some from
  pub here : new.at output ≡ Some onto
  pub apart : from ≢ onto
  pub header : Header
  pub chunks : List Chunk
  pub rest : List ℕ
  pub spelled : Spells (old.holds from) header chunks rest
  pub holds : new.holds onto ≡ expansion header.blk_sz (classed chunks)
  pub spares : Spares onto old new
  pub shown : shows (line_text (lines.Expanded header.total_blks (header.total_blks * header.blk_sz)) ++ (10 ∷ []))

-- What is left of files, whatever the outcome. Only OUT may hold anything else, and not where it is in use and that is
-- not allowed. IN holds what it held, and no output is open. The result is Ok only where nothing has failed.
pub record LeavesExpanded {X F : Type 0} (r : Result X F) (from onto : List ℕ) (held held' : OpenFiles)
    (old new : World)
    : Type 0 where
  pub others : OnlyAt held.read onto old new
  pub in_use : SparesInUse onto held old new
  pub input : KeepsFile from old new
  pub closed : held'.output ≡ None
  pub clean : OnOk r (HasNotFailed held held')

-- the file at one path has this fault, and the file at the other path holds exactly what comes before the fault
pub record HoldsUpTo (input output : List ℕ) (f : SparseFault) (old new : World) : Type 0 where
  pub from : ℕ
  pub there : old.at input ≡ Some from
  pub given : List (Option ℕ)
  pub fails : Fails (old.holds from) f given
  pub holds : FileHolds new output (laid given)

-- This many bytes of x were read. What they give is written after what was there: a beginning of it, which is all of it
-- but for less than a window. The last byte does not count, since it may complete a word that is repeated.
pub record WritesRead (read : ℕ) (x old new : List ℕ) : Type 0 where
  pub begun : Begun old new (take read x)
  pub least : AlmostWhole old new (take (read - 1) x)

-- one read of a device has failed, and nothing else has
abbrev pub HasFailedToReadOnce : OpenFiles → OpenFiles → Type 0
HasFailedToReadOnce old new = (cause : Cause) → new.counts.failed cause ≡ old.counts.failed cause + of_reading 1 cause

-- what the first bytes give of the file at this path, as many as were read in this run, is held so
pub record HoldsBegun (Holds : List ℕ → Type 0) (input : List ℕ) (held held' : OpenFiles) (old : World) : Type 0 where
  pub from : ℕ
  pub there : old.at input ≡ Some from
  pub read : ℕ
  pub counted : held'.counts.given ≡ held.counts.given + read
  pub front : List ℕ
  pub written : WritesRead read (old.holds from) [] front
  pub holds : Holds front

-- What OUT's file holds after a fault of IN, whatever else has failed: it begins with most of what was read. Where
-- nothing else has failed, it holds what comes before the fault; or, where IN could not be read, what was read, but for
-- less than a window.
abbrev pub LeavesFront : SparseFault → List ℕ → List ℕ → World → World → OpenFiles → OpenFiles → Type 0
LeavesFront (of_sparse.Read d) input output old new held held' =
    HoldsBegun (FileHoldsMost new output) input held held' old
    × (HasFailedToReadOnce held held' → HoldsBegun (FileHolds new output) input held held' old)
LeavesFront (of_sparse.Write d) input output old new held held' =
    HoldsBegun (FileHoldsMost new output) input held held' old
LeavesFront f input output old new held held' =
    HoldsBegun (FileHoldsMost new output) input held held' old
    × (HasNotFailed held held' → HoldsUpTo input output f old new)

-- why it fails: for a fault of the contents of IN; because a device or the system failed; or only the write of its
-- line
abbrev pub RefusesFile : SparseCommandFault → List ℕ → List ℕ → World → World → OpenFiles → OpenFiles
    → (List ℕ → Type 0) → Type 0
RefusesFile (faults.Sparse f) input output old new held held' untold =
    OfDevice f (λ cause. HasFailed cause held held') (HasFault input old f)
    × LeavesFront f input output old new held held'
RefusesFile (faults.Host f) input output old new held held' untold =
    HasFailed (call f) held held' ⊎ ((f ≡ hosts.Write) × ExpandsFile input output old new untold)
RefusesFile f input output old new held held' untold = ⊥
