-- Why a copy fails, by the counts of faults before and after the call.
use Rattle.std.specs.Prelude.{ℕ, ◌<◌, Result, Ok, Err}
use Rattle.abt_io.specs.Count.{full_in}
use Rattle.abt_io.specs.declared.copying.CopyFault.{CopyFault}
use Rattle.abt_io.specs.declared.copying.CopyFault.TheVariants.{Read, Write, Changed}

-- the device that it names has failed: the source's faults went from r to r', the output's from w to w'; `Changed`
-- says that the source ended too soon
abbrev pub CopyCause : CopyFault → Type 0 → ℕ → ℕ → ℕ → ℕ → Type 0
CopyCause (Read f) ended r r' w w' = r < r'
CopyCause (Write f) ended r r' w w' = w < w'
CopyCause Changed ended r r' w w' = ended

-- 1 where a fault hands on that a device is full
abbrev pub full_in_copy : CopyFault → ℕ
full_in_copy (Read f) = full_in f
full_in_copy (Write f) = full_in f
full_in_copy Changed = 0

abbrev pub full_copied : {X : Type 0} → Result X CopyFault → ℕ
full_copied (Ok x) = 0
full_copied (Err e) = full_in_copy e
