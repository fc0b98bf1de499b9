-- Which faults concern the arguments, the number of each fault, and which of the files it concerns.
use Rattle.std.specs.Prelude.{◌≡◌, ℕ, ◌==◌, ◌||◌, List, ◌++◌, Bool, false, Option, Some, None, codes, decimal}
use Rattle.std.specs.Prelude.{if◌then◌else◌}
use Rattle.abt_sparse.specs.Number as sparse
use Rattle.abt_runs.specs.Number as run
use Rattle.abt_pieces.specs.Fault as piece
use Rattle.abt_flash_faults.specs.Fault as flash
use Rattle.abt_verify.specs.Fault as verify
use Rattle.abt_flash_faults.specs.declared.fault.Cause.{Cause}
use Rattle.abt_flash_faults.specs.declared.fault.Cause.TheVariants as causes
use Rattle.abt_flash_faults.specs.declared.fault.FlashFault.{FlashFault}
use Rattle.abt_flash_faults.specs.declared.fault.FlashFault.TheVariants as flashes
use Rattle.sys_refusals.specs.Host.{is_not_text}
use Rattle.sys_refusals.specs.Said.{TellsNumber, host_said}
use Rattle.sys_refusals.specs.declared.place.FileArg.{FileArg}
use Rattle.sys_refusals.specs.declared.told.Side.{Side}
use Rattle.sys_refusals.specs.declared.told.Side.TheVariants as sides
use Rattle.cmd_common_sparse.specs.declared.fault.SparseCommandFault.{SparseCommandFault}
use Rattle.cmd_common_sparse.specs.declared.fault.SparseCommandFault.TheVariants as faults

-- the arguments are wrong, rather than what they name
abbrev pub wrong_words : SparseCommandFault → Bool
wrong_words (faults.Sparse fault) = false
wrong_words (faults.Run fault) = false
wrong_words (faults.Piece fault) = false
wrong_words (faults.Flash fault) = false
wrong_words (faults.Verify fault) = false
wrong_words (faults.OtherBlocks image) = false
wrong_words (faults.OtherCut image) = false
wrong_words (faults.Host fault) = is_not_text fault

-- the number of a fault of an image or a device, as its own crate defines it
abbrev pub sparse_command_fault_number : SparseCommandFault → Option ℕ
sparse_command_fault_number (faults.Sparse fault) = Some (sparse.number_of fault)
sparse_command_fault_number (faults.Run fault) = Some (run.run_fault_number fault)
sparse_command_fault_number (faults.Piece fault) = Some (piece.piece_fault_number fault)
sparse_command_fault_number (faults.Flash fault) = Some (flash.flash_fault_number fault)
sparse_command_fault_number (faults.Verify fault) = Some (verify.verify_fault_number fault)
sparse_command_fault_number (faults.OtherBlocks image) = Some 36
sparse_command_fault_number (faults.OtherCut image) = Some 38
sparse_command_fault_number (faults.Host fault) = None

-- the file that a stopped delivery is about
abbrev pub side_of_cause : Cause → Side
side_of_cause (causes.Read fault) = sides.Input
side_of_cause causes.SourceChanged = sides.Input
side_of_cause (causes.Write fault) = sides.Output
side_of_cause (causes.Sync fault) = sides.Output
side_of_cause (causes.SpoolWrite fault) = sides.Spool
side_of_cause (causes.SpoolRead fault) = sides.Spool
side_of_cause causes.SpoolChanged = sides.Spool

-- Of what is written or compared: 12 is not written, 17 too small, 18 not synced, 35 another byte, 37 not read.
-- Of the arguments: 15 is no size of blocks, 16 too small a limit, 31 no piece. All others are of what is read.
abbrev pub side_of_number : ℕ → Side
side_of_number n =
    if n == 12 || (n == 17 || (n == 18 || (n == 35 || n == 37))) then sides.Output
    else (if n == 15 || (n == 16 || n == 31) then sides.Words else sides.Input)

-- a stopped delivery is about the file of its cause
abbrev pub side_of_flash : FlashFault → Side
side_of_flash (flashes.Sparse f) = side_of_number (sparse.number_of f)
side_of_flash (flashes.Read f) = sides.Input
side_of_flash (flashes.Write f) = sides.Output
side_of_flash flashes.TooLarge = sides.Input
side_of_flash flashes.SourceChanged = sides.Input
side_of_flash (flashes.BadBlock n) = sides.Words
side_of_flash (flashes.LimitTooSmall n) = sides.Words
side_of_flash (flashes.PartitionTooSmall n) = sides.Output
side_of_flash (flashes.Sync f) = sides.Output
side_of_flash (flashes.Stopped piece cause) = side_of_cause cause
side_of_flash (flashes.NoSuchPiece n) = sides.Words

-- which of the files in use a fault is about
abbrev pub side_of : SparseCommandFault → Side
side_of (faults.Sparse fault) = side_of_number (sparse.number_of fault)
side_of (faults.Run fault) = side_of_number (run.run_fault_number fault)
side_of (faults.Piece fault) = side_of_number (piece.piece_fault_number fault)
side_of (faults.Flash fault) = side_of_flash fault
side_of (faults.Verify fault) = side_of_number (verify.verify_fault_number fault)
side_of (faults.OtherBlocks image) = sides.Input
side_of (faults.OtherCut image) = sides.Input
side_of (faults.Host fault) = sides.Call

-- the piece from which a stopped flash continues
abbrev pub mended_of_flash : FlashFault → Option ℕ
mended_of_flash (flashes.Sparse f) = None
mended_of_flash (flashes.Read f) = None
mended_of_flash (flashes.Write f) = None
mended_of_flash flashes.TooLarge = None
mended_of_flash flashes.SourceChanged = None
mended_of_flash (flashes.BadBlock n) = None
mended_of_flash (flashes.LimitTooSmall n) = None
mended_of_flash (flashes.PartitionTooSmall n) = None
mended_of_flash (flashes.Sync f) = None
mended_of_flash (flashes.Stopped piece cause) = Some piece
mended_of_flash (flashes.NoSuchPiece n) = None

abbrev pub mended_from : SparseCommandFault → Option ℕ
mended_from (faults.Sparse fault) = None
mended_from (faults.Run fault) = None
mended_from (faults.Piece fault) = None
mended_from (faults.Flash fault) = mended_of_flash fault
mended_from (faults.Verify fault) = None
mended_from (faults.OtherBlocks image) = None
mended_from (faults.OtherCut image) = None
mended_from (faults.Host fault) = None

-- what the first line may say: the number and a text, or exactly what is wrong
abbrev pub says : SparseCommandFault → Option FileArg → List ℕ → Type 0
says (faults.Sparse fault) place told = TellsNumber (sparse.number_of fault) told
says (faults.Run fault) place told = TellsNumber (run.run_fault_number fault) told
says (faults.Piece fault) place told = TellsNumber (piece.piece_fault_number fault) told
says (faults.Flash fault) place told = TellsNumber (flash.flash_fault_number fault) told
says (faults.Verify fault) place told = TellsNumber (verify.verify_fault_number fault) told
says (faults.OtherBlocks image) place told = told ≡ codes "36 OtherBlocks image " ++ decimal image
says (faults.OtherCut image) place told = told ≡ codes "38 OtherCut image " ++ decimal image
says (faults.Host fault) place told = told ≡ host_said fault place
