-- The reason of a device that a fault passes on.
use Rattle.std.specs.Prelude.{ℕ, Result, Ok, Err}
use Rattle.abt_io.specs.Count.{full_in}
use Rattle.abt_sparse.specs.declared.fault.SparseFault.{SparseFault}
use Rattle.abt_sparse.specs.declared.fault.SparseFault.TheVariants.{Read, Write}

-- 1 where a fault hands on that a device is full
abbrev pub full_in_fault : SparseFault → ℕ
full_in_fault (Read d) = full_in d
full_in_fault (Write d) = full_in d
full_in_fault f = 0

-- 1 for a call that returned this
abbrev pub full_answered : {X : Type 0} → Result X SparseFault → ℕ
full_answered (Ok x) = 0
full_answered (Err f) = full_in_fault f
