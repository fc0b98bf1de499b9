-- The numbers of faults, and the cause of each.
use Rattle.std.specs.Prelude.{◌≡◌, ◌<◌, ℕ, Bool, false, Result, Ok, Err}
use Rattle.abt_io.specs.Count.{full_in}
use Rattle.abt_io.specs.declared.device.DeviceFault.TheVariants.{Failed}
use Rattle.abt_runs.specs.declared.part.RunFault.{RunFault}
use Rattle.abt_runs.specs.declared.part.RunFault.TheVariants as of_runs
use Rattle.abt_pieces.specs.declared.fault.PieceFault.{PieceFault}
use Rattle.abt_pieces.specs.declared.fault.PieceFault.TheVariants.{Read, Write, TooLarge, SourceChanged, BadBlock}
use Rattle.abt_pieces.specs.declared.fault.PieceFault.TheVariants.{LimitTooSmall}

abbrev pub piece_fault_number : PieceFault → ℕ
piece_fault_number (Read f) = 11
piece_fault_number (Write f) = 12
piece_fault_number TooLarge = 13
piece_fault_number SourceChanged = 14
piece_fault_number (BadBlock n) = 15
piece_fault_number (LimitTooSmall n) = 16

abbrev pub fault_of_run : RunFault → PieceFault
fault_of_run (of_runs.Read f) = Read f
fault_of_run of_runs.TooLarge = TooLarge
fault_of_run of_runs.SourceChanged = SourceChanged
fault_of_run (of_runs.Sparse f) = SourceChanged
fault_of_run (of_runs.BadBlock n) = BadBlock n

-- While a piece is planned or written a device has failed, the source with the reason that is handed on, or a source
-- that does not model its content has changed.
abbrev pub CutCause : PieceFault → Bool → ℕ → ℕ → ℕ → ℕ → Type 0
CutCause (Read f) models reads reads' writes writes' = (reads < reads') × (f ≡ Failed)
CutCause (Write f) models reads reads' writes writes' = writes < writes'
CutCause SourceChanged models reads reads' writes writes' = models ≡ false
CutCause TooLarge models reads reads' writes writes' = ⊥
CutCause (BadBlock n) models reads reads' writes writes' = ⊥
CutCause (LimitTooSmall n) models reads reads' writes writes' = ⊥

-- 1 where a fault hands on that the output is full
abbrev pub full_in_cut : PieceFault → ℕ
full_in_cut (Read f) = 0
full_in_cut (Write f) = full_in f
full_in_cut TooLarge = 0
full_in_cut SourceChanged = 0
full_in_cut (BadBlock n) = 0
full_in_cut (LimitTooSmall n) = 0

abbrev pub full_cut : {X : Type 0} → Result X PieceFault → ℕ
full_cut (Ok x) = 0
full_cut (Err f) = full_in_cut f
