-- The numbers of faults, and the cause of each.
use Rattle.std.specs.Prelude.{◌≡◌, ℕ, ◌<◌, Result, Ok, Err}
use Rattle.abt_io.specs.declared.device.DeviceFault.TheVariants.{Failed}
use Rattle.abt_sparse.specs.Number.{number_of}
use Rattle.abt_sparse.specs.declared.fault.SparseFault.{SparseFault}
use Rattle.abt_sparse.specs.declared.fault.SparseFault.TheVariants as of_sparse
use Rattle.abt_flash_faults.specs.declared.fault.Cause.{Cause}
use Rattle.abt_flash_faults.specs.declared.fault.Cause.TheVariants as causes
use Rattle.abt_flash_faults.specs.declared.fault.FlashFault.{FlashFault}
use Rattle.abt_flash_faults.specs.declared.fault.FlashFault.TheVariants.{Sparse, Read, Write, TooLarge, SourceChanged}
use Rattle.abt_flash_faults.specs.declared.fault.FlashFault.TheVariants.{BadBlock, LimitTooSmall, PartitionTooSmall}
use Rattle.abt_flash_faults.specs.declared.fault.FlashFault.TheVariants.{Sync}
use Rattle.abt_flash_faults.specs.declared.fault.FlashFault.TheVariants.{Stopped, NoSuchPiece}
use Rattle.abt_chunks.specs.Cause.{IsOwn}

abbrev pub cause_number : Cause → ℕ
cause_number (causes.Read f) = 11
cause_number (causes.Write f) = 12
cause_number causes.SourceChanged = 14
cause_number (causes.Sync f) = 18
cause_number (causes.SpoolWrite f) = 32
cause_number (causes.SpoolRead f) = 33
cause_number causes.SpoolChanged = 34

abbrev pub flash_fault_number : FlashFault → ℕ
flash_fault_number (Sparse f) = number_of f
flash_fault_number (Read f) = 11
flash_fault_number (Write f) = 12
flash_fault_number TooLarge = 13
flash_fault_number SourceChanged = 14
flash_fault_number (BadBlock n) = 15
flash_fault_number (LimitTooSmall n) = 16
flash_fault_number (PartitionTooSmall n) = 17
flash_fault_number (Sync f) = 18
flash_fault_number (Stopped j c) = 19
flash_fault_number (NoSuchPiece k) = 31

-- a fault of the machine that reads
abbrev pub fault_of_sparse : SparseFault → FlashFault
fault_of_sparse (of_sparse.Read d) = Read d
fault_of_sparse (of_sparse.Write d) = Write d
fault_of_sparse f = Sparse f

-- Of a flash: 11 comes where the input has failed, 12 and 18 where the partition has, and each count of faults is as
-- before where that device isn't named. The reason that it gave is handed on, and is never that it is full. 13 to 16,
-- 19 and 31 never come.
abbrev pub FlashCause : FlashFault → ℕ → ℕ → ℕ → ℕ → Type 0
FlashCause (Sparse f) r r' p p' = IsOwn f × (r' ≡ r) × (p' ≡ p)
FlashCause (Read d) r r' p p' = (r < r') × (d ≡ Failed) × (p' ≡ p)
FlashCause (Write d) r r' p p' = (p < p') × (d ≡ Failed) × (r' ≡ r)
FlashCause (PartitionTooSmall n) r r' p p' = (r' ≡ r) × (p' ≡ p)
FlashCause (Sync d) r r' p p' = (p < p') × (d ≡ Failed) × (r' ≡ r)
FlashCause f r r' p p' = ⊥

abbrev pub FlashingRises : {X : Type 0} → Result X FlashFault → ℕ → ℕ → ℕ → ℕ → Type 0
FlashingRises (Ok x) r r' p p' = (r' ≡ r) × (p' ≡ p)
FlashingRises (Err f) r r' p p' = FlashCause f r r' p p'

-- and of writing a part alone
abbrev pub PutCause : {X : Type 0} → Result X FlashFault → ℕ → ℕ → Type 0
PutCause (Ok x) p p' = p' ≡ p
PutCause (Err (Write d)) p p' = (p < p') × (d ≡ Failed)
PutCause (Err (Sync d)) p p' = (p < p') × (d ≡ Failed)
PutCause (Err f) p p' = ⊥

-- 1 where a sync was refused. Of each other refusal every sync that was called has succeeded.
abbrev pub refused_syncs : {X : Type 0} → Result X FlashFault → ℕ
refused_syncs (Ok x) = 0
refused_syncs (Err (Sync d)) = 1
refused_syncs (Err (Stopped j (causes.Sync d))) = 1
refused_syncs (Err f) = 0

-- P, where a sync was refused; and save where a write was
abbrev pub OnUnsynced : {X : Type 0} → Result X FlashFault → Type 0 → Type 0
OnUnsynced (Ok x) P = Unit {0}
OnUnsynced (Err (Sync d)) P = P
OnUnsynced (Err f) P = Unit {0}

abbrev pub UnlessUnwritten : {X : Type 0} → Result X FlashFault → Type 0 → Type 0
UnlessUnwritten (Ok x) P = P
UnlessUnwritten (Err (Write d)) P = Unit {0}
UnlessUnwritten (Err f) P = P
