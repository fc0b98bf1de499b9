-- A refusal as the cause of a stop.
use Rattle.abt_pieces.specs.declared.fault.PieceFault.{PieceFault}
use Rattle.abt_pieces.specs.declared.fault.PieceFault.TheVariants as cuts
use Rattle.abt_runs.specs.declared.part.RunFault.{RunFault}
use Rattle.abt_runs.specs.declared.part.RunFault.TheVariants as of_runs
use Rattle.abt_flash_faults.specs.declared.fault.Cause.{Cause}
use Rattle.abt_flash_faults.specs.declared.fault.Cause.TheVariants as causes
use Rattle.abt_flash_faults.specs.declared.fault.FlashFault.{FlashFault}
use Rattle.abt_flash_faults.specs.declared.fault.FlashFault.TheVariants as flashes

-- where the piece was not written; a cutter that goes on refuses with 11, 12 and 14 alone
abbrev pub cutting_cause : PieceFault → Cause
cutting_cause (cuts.Read d) = causes.Read d
cutting_cause (cuts.Write d) = causes.SpoolWrite d
cutting_cause cuts.SourceChanged = causes.SourceChanged
cutting_cause cuts.TooLarge = causes.SourceChanged
cutting_cause (cuts.BadBlock n) = causes.SourceChanged
cutting_cause (cuts.LimitTooSmall n) = causes.SourceChanged

-- where it was not flashed
abbrev pub flashing_cause : FlashFault → Cause
flashing_cause (flashes.Read d) = causes.SpoolRead d
flashing_cause (flashes.Write d) = causes.Write d
flashing_cause (flashes.Sync d) = causes.Sync d
flashing_cause (flashes.Sparse f) = causes.SpoolChanged
flashing_cause (flashes.PartitionTooSmall n) = causes.SpoolChanged
flashing_cause flashes.TooLarge = causes.SpoolChanged
flashing_cause flashes.SourceChanged = causes.SpoolChanged
flashing_cause (flashes.BadBlock n) = causes.SpoolChanged
flashing_cause (flashes.LimitTooSmall n) = causes.SpoolChanged
flashing_cause (flashes.Stopped n c) = causes.SpoolChanged
flashing_cause (flashes.NoSuchPiece n) = causes.SpoolChanged

-- where a piece was not planned; planning refuses with 11 and 14 alone
abbrev pub planning_fault : PieceFault → FlashFault
planning_fault (cuts.Read d) = flashes.Read d
planning_fault (cuts.Write d) = flashes.SourceChanged
planning_fault cuts.SourceChanged = flashes.SourceChanged
planning_fault cuts.TooLarge = flashes.SourceChanged
planning_fault (cuts.BadBlock n) = flashes.SourceChanged
planning_fault (cuts.LimitTooSmall n) = flashes.SourceChanged

-- where a cutter is not opened: for the limit alone
abbrev pub opening_fault : PieceFault → FlashFault
opening_fault (cuts.LimitTooSmall n) = flashes.LimitTooSmall n
opening_fault (cuts.Read d) = flashes.Read d
opening_fault (cuts.Write d) = flashes.Write d
opening_fault cuts.SourceChanged = flashes.SourceChanged
opening_fault cuts.TooLarge = flashes.TooLarge
opening_fault (cuts.BadBlock n) = flashes.BadBlock n

-- where an image is not opened
abbrev pub run_fault_of : RunFault → FlashFault
run_fault_of (of_runs.Sparse f) = flashes.Sparse f
run_fault_of (of_runs.Read d) = flashes.Read d
run_fault_of of_runs.TooLarge = flashes.TooLarge
run_fault_of of_runs.SourceChanged = flashes.SourceChanged
run_fault_of (of_runs.BadBlock n) = flashes.BadBlock n
