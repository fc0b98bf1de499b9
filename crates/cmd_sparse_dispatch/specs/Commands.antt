-- What a command of sparse images does with the files of its arguments, what it leaves of them, and why it fails.
use Rattle.std.specs.Prelude.{◌≡◌, ◌<◌, ◌+◌, ◌-◌, ◌++◌, max, ℕ, List, [], ◌∷◌, Option, Some, None, Bool, IsTrue, map}
use Rattle.std.specs.Prelude.{if◌then◌else◌, Result, OnOk}
use Rattle.std.specs.List.{AllByRecursion}
use Rattle.sys_refusals.specs.Paths.{output_path}
use Rattle.words_orders.specs.declared.order.SparseTask.{SparseTask}
use Rattle.words_orders.specs.declared.order.SparseTask.TheVariants as tasks
use Rattle.words_orders.specs.declared.order.Pieces.{Pieces}
use Rattle.sys_report.specs.declared.report.Report.{Report}
use Rattle.sys_report.specs.Shows.{CannotPrint, ShowsBeside, ShowsHere, Unprinted}
use Rattle.sys_disk.specs.World.{World, OpenFiles, OnlyAt, KeepsFile, SparesInUse, HasNotFailed}
use Rattle.cmd_common_sparse.specs.ImagePath.{image_path}
use Rattle.cmd_common_sparse.specs.PieceNames.{Naming, naming}
use Rattle.cmd_common_sparse.specs.declared.fault.SparseCommandFault.{SparseCommandFault}
use Rattle.cmd_expand.specs.Expanding.{ExpandsFile, RefusesFile}
use Rattle.cmd_expand.specs.Overlaying.{OverlaysFiles, RefusesOverlay}
use Rattle.cmd_cut.specs.Sparsing.{HoldsNoPartOfSparse, RefusesRaw, SparsifiesFile}
use Rattle.cmd_cut.specs.Cutting.{CutsFile, MayWritePiece, RefusesCut, ShowsCut}
use Rattle.sys_disk.specs.Among.{OnlyAmong}
use Rattle.cmd_flash.specs.Files.{OfFile, SparesAround}
use Rattle.cmd_flash.specs.Flashing.{FlashesFile, RefusesFlash}
use Rattle.cmd_flash.specs.FlashingRaw.{FlashesRawFile, RefusesFlashRaw}
use Rattle.cmd_flash.specs.InPieces.{FlashesPieces, RefusesPieces, SparesBoth}
use Rattle.cmd_flash.specs.Listing.{IsListed, RefusesList}
use Rattle.cmd_flash.specs.Verifying.{RefusesVerify, RefusesVerifyRaw, VerifiesFile, VerifiesRawFile}

-- a state of a run: what files hold, which files are open, and what was printed
pub record State : Type 0 where
  pub world : World
  pub held : OpenFiles
  pub report : Report

abbrev pub state : World → OpenFiles → Report → State
state world held report = record { world = world; held = held; report = report }

-- between two states this many outputs were synced
abbrev pub SyncsOutputs : ℕ → State → State → Type 0
SyncsOutputs n a z = z.held.syncs ≡ a.held.syncs + n

-- one, where that is requested
abbrev pub one_if_wanted : State → ℕ
one_if_wanted a = if a.held.is_synced then 1 else 0

-- ---- what is done, from state a to state z, of a disk where such paths lead to where standard output goes

-- one image is expanded, or several that overwrite one another
abbrev pub ExpandsImages : (List ℕ → Bool) → List (List ℕ) → List ℕ → State → State → Type 0
ExpandsImages on_output [] output a z =
    OverlaysFiles [] output a.world z.world (ShowsBeside (on_output output) a.report z.report) × SyncsOutputs 0 a z
ExpandsImages on_output (input ∷ []) output a z =
    ExpandsFile (image_path input) (output_path output) a.world z.world
    (ShowsBeside (on_output (output_path output)) a.report z.report)
    × SyncsOutputs (one_if_wanted a) a z
ExpandsImages on_output inputs output a z =
    OverlaysFiles (map image_path inputs) output a.world z.world (ShowsBeside (on_output output) a.report z.report)
    × SyncsOutputs 1 a z

-- the header and the chunks of an image are printed
abbrev pub ListsImage : List ℕ → State → State → Type 0
ListsImage input a z = OfFile (image_path input) a.world (λ x. IsListed x (λ text.
    z.report.out.log.state.bytes ≡ a.report.out.log.state.bytes ++ text))

-- a raw image is written as a sparse one, in blocks of this many bytes; as img2simg makes it if that is requested
abbrev pub Sparsifies : (List ℕ → Bool) → List ℕ → List ℕ → ℕ → Bool → State → State → Type 0
Sparsifies on_output input output block tail a z =
    SparsifiesFile input (output_path output) tail block a.world z.world
    (ShowsBeside (on_output (output_path output)) a.report z.report)
    × SyncsOutputs (one_if_wanted a) a z

-- an image is cut into pieces of at most this many bytes
abbrev pub Cuts : (List ℕ → Bool) → List ℕ → ℕ → Naming → Option ℕ → State → State → Type 0
Cuts on_output input limit names raw a z = CutsFile raw limit input names a.held z.held a.world z.world
    (ShowsCut on_output names limit z.world a.report z.report)

-- an image is flashed straight to a partition, or in pieces from one of them on
abbrev pub FlashesImage : (List ℕ → Bool) → List ℕ → List ℕ → Option ℕ → Option Pieces → State → State → Type 0
FlashesImage on_output input partition None None a z = FlashesFile (image_path input) partition a.world z.world
    a.held.syncs z.held.syncs (ShowsBeside (on_output partition) a.report z.report)
FlashesImage on_output input partition (Some size) None a z =
    FlashesRawFile size (image_path input) partition a.world z.world
    a.held.syncs z.held.syncs (ShowsBeside (on_output partition) a.report z.report)
FlashesImage on_output input partition raw (Some p) a z =
    FlashesPieces raw p.limit (max 1 p.from - 1) (image_path input) partition
    p.spool.now a.world z.world a.held z.held (ShowsBeside (on_output partition) a.report z.report)

-- a partition holds an image
abbrev pub VerifiesImage : List ℕ → List ℕ → Option ℕ → State → State → Type 0
VerifiesImage input partition None a z =
    VerifiesFile (image_path input) partition a.world (ShowsHere a.report z.report)
VerifiesImage input partition (Some size) a z =
    VerifiesRawFile size (image_path input) partition a.world (ShowsHere a.report z.report)

-- what a task asks for is done
abbrev pub DoesTask : (List ℕ → Bool) → SparseTask → State → State → Type 0
DoesTask on_output (tasks.Expand inputs output) a z =
    ExpandsImages on_output (map (λ word. word.now) inputs.items) output.now a z
DoesTask on_output (tasks.List input) a z = ListsImage input.now a z
DoesTask on_output (tasks.Sparse input output block tail) a z =
    Sparsifies on_output input.now output.now block tail a z
DoesTask on_output (tasks.Cut input limit prefix from_zero raw) a z =
    Cuts on_output input.now limit (naming prefix.now from_zero) raw a z
DoesTask on_output (tasks.Flash input partition raw pieces) a z =
    FlashesImage on_output input.now partition.now raw pieces a z
DoesTask on_output (tasks.Verify input partition raw) a z = VerifiesImage input.now partition.now raw a z

-- ---- what stays, whatever the outcome

-- this much stays, and the result is Ok only where nothing has failed
pub record LeavesSpared {X F : Type 0} (r : Result X F) (Spared : State → State → Type 0) (a z : State) : Type 0 where
  pub spares : Spared a z
  pub clean : OnOk r (HasNotFailed a.held z.held)

-- every file
abbrev pub SparesWorld : State → State → Type 0
SparesWorld a z = z.world ≡ a.world

-- OUT alone may hold anything else, and not where it is in use and that is not allowed; each IN holds what it held
abbrev pub SparesExpanded : List (List ℕ) → List ℕ → State → State → Type 0
SparesExpanded (input ∷ []) output a z = OnlyAt a.held.read (output_path output) a.world z.world
    × KeepsFile (image_path input) a.world z.world × SparesInUse (output_path output) a.held a.world z.world
SparesExpanded inputs output a z = OnlyAt a.held.read output a.world z.world
    × AllByRecursion (λ path. KeepsFile path a.world z.world) (map image_path inputs)
    × SparesInUse output a.held a.world z.world

abbrev pub SparesSparsified : List ℕ → List ℕ → State → State → Type 0
SparesSparsified input output a z =
    OnlyAt a.held.read (output_path output) a.world z.world × KeepsFile input a.world z.world
    × SparesInUse (output_path output) a.held a.world z.world

-- files of pieces alone may be new, or hold anything else, and none at a path that may not be written; IN holds what it
-- held
abbrev pub SparesCut : List ℕ → List ℕ → State → State → Type 0
SparesCut input prefix a z =
    OnlyAmong (MayWritePiece prefix a.held) a.held.read z.held.begun a.world z.world × KeepsFile input a.world z.world

-- PARTITION alone may hold anything else, and SPOOL, where pieces go through it, and neither where it is in use and
-- that is not allowed; IN holds what it held
abbrev pub SparesFlashed : List ℕ → List ℕ → Option Pieces → State → State → Type 0
SparesFlashed input partition None a z =
    SparesAround partition a.held a.world z.world × KeepsFile (image_path input) a.world z.world
SparesFlashed input partition (Some p) a z =
    SparesBoth partition p.spool.now a.held a.world z.world × KeepsFile (image_path input) a.world z.world

-- each file that a task reads holds what it held, and only the files that it is to write may have changed
abbrev pub SparesFiles : SparseTask → State → State → Type 0
SparesFiles (tasks.Expand inputs output) a z =
    SparesExpanded (map (λ word. word.now) inputs.items) output.now a z
SparesFiles (tasks.List input) a z = SparesWorld a z
SparesFiles (tasks.Sparse input output block tail) a z = SparesSparsified input.now output.now a z
SparesFiles (tasks.Cut input limit prefix from_zero raw) a z = SparesCut input.now prefix.now a z
SparesFiles (tasks.Flash input partition raw pieces) a z = SparesFlashed input.now partition.now pieces a z
SparesFiles (tasks.Verify input partition raw) a z = SparesWorld a z

-- of a sparse image that is written over a file none has a part: the file holds what it held, no image, or all of it
abbrev pub LeavesNoPartOfSparse : (List ℕ → Bool) → SparseTask → State → State → Type 0
LeavesNoPartOfSparse is_over (tasks.Sparse input output block tail) a z = IsTrue (is_over (output_path output.now))
    → HoldsNoPartOfSparse input.now (output_path output.now) tail block a.world z.world
LeavesNoPartOfSparse is_over task a z = Unit {0}

-- ---- why it fails

abbrev pub RefusesExpand : SparseCommandFault → List (List ℕ) → List ℕ → State → State → Type 0
RefusesExpand fault (input ∷ []) output a z =
    RefusesFile fault (image_path input) (output_path output) a.world z.world a.held z.held
    (Unprinted a.report z.report)
RefusesExpand fault inputs output a z =
    RefusesOverlay fault (map image_path inputs) output a.world z.world a.held z.held (Unprinted a.report z.report)

-- or the report failed, which is no call of the disk
abbrev pub RefusesListing : SparseCommandFault → List ℕ → State → State → Type 0
RefusesListing fault input a z = RefusesList fault (image_path input) a.world a.held z.held
    (a.report.out.faults.number < z.report.out.faults.number)

abbrev pub RefusesSparse : SparseCommandFault → List ℕ → List ℕ → ℕ → Bool → State → State → Type 0
RefusesSparse fault input output block tail a z = RefusesRaw input block a.world z.world a.held z.held
    (SparsifiesFile input (output_path output) tail block a.world z.world (Unprinted a.report z.report)) fault

abbrev pub RefusesCutting : SparseCommandFault → List ℕ → ℕ → Naming → Option ℕ → State → State → Type 0
RefusesCutting fault input limit names raw a z =
    RefusesCut raw limit input names fault a.held z.held a.world z.world (CannotPrint a.report z.report)

abbrev pub RefusesFlashing : SparseCommandFault → List ℕ → List ℕ → Option ℕ → Option Pieces → State → State → Type 0
RefusesFlashing fault input partition None None a z =
    RefusesFlash fault (image_path input) partition a.world z.world a.held z.held (Unprinted a.report z.report)
RefusesFlashing fault input partition (Some size) None a z =
    RefusesFlashRaw fault size (image_path input) partition a.world z.world a.held z.held
    (Unprinted a.report z.report)
RefusesFlashing fault input partition raw (Some p) a z = RefusesPieces fault raw p.limit (max 1 p.from - 1)
    (image_path input) partition p.spool.now a.world z.world a.held z.held (Unprinted a.report z.report)

abbrev pub RefusesVerifying : SparseCommandFault → List ℕ → List ℕ → Option ℕ → State → State → Type 0
RefusesVerifying fault input partition None a z =
    RefusesVerify fault (image_path input) partition a.world a.held z.held (Unprinted a.report z.report)
RefusesVerifying fault input partition (Some size) a z =
    RefusesVerifyRaw fault size (image_path input) partition a.world a.held z.held (Unprinted a.report z.report)

-- why a task is not done, as its command defines it
abbrev pub RefusesTask : SparseCommandFault → SparseTask → State → State → Type 0
RefusesTask fault (tasks.Expand inputs output) a z =
    RefusesExpand fault (map (λ word. word.now) inputs.items) output.now a z
RefusesTask fault (tasks.List input) a z = RefusesListing fault input.now a z
RefusesTask fault (tasks.Sparse input output block tail) a z =
    RefusesSparse fault input.now output.now block tail a z
RefusesTask fault (tasks.Cut input limit prefix from_zero raw) a z =
    RefusesCutting fault input.now limit (naming prefix.now from_zero) raw a z
RefusesTask fault (tasks.Flash input partition raw pieces) a z =
    RefusesFlashing fault input.now partition.now raw pieces a z
RefusesTask fault (tasks.Verify input partition raw) a z =
    RefusesVerifying fault input.now partition.now raw a z
