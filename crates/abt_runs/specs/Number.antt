-- The numbers of faults.
use Rattle.std.specs.Prelude.{ℕ}
use Rattle.abt_sparse.specs.Number.{number_of as sparse_number}
use Rattle.abt_runs.specs.declared.part.RunFault.{RunFault}
use Rattle.abt_runs.specs.declared.part.RunFault.TheVariants.{Sparse, Read, TooLarge, SourceChanged, BadBlock}

abbrev pub run_fault_number : RunFault → ℕ
run_fault_number (Sparse f) = sparse_number f
run_fault_number (Read f) = 11
run_fault_number TooLarge = 13
run_fault_number SourceChanged = 14
run_fault_number (BadBlock n) = 15
