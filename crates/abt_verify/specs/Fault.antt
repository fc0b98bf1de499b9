-- The numbers of refusals, and the cause of each.
use Rattle.std.specs.Prelude.{◌≡◌, ℕ, ◌<◌, Bool, false, Result, Ok, Err, Option, Some, None, nat_lt, if◌then◌else◌}
use Rattle.abt_io.specs.declared.device.DeviceFault.{DeviceFault}
use Rattle.abt_io.specs.declared.device.DeviceFault.TheVariants.{Failed}
use Rattle.abt_sparse.specs.Number.{number_of}
use Rattle.abt_sparse.specs.declared.fault.SparseFault.{SparseFault}
use Rattle.abt_sparse.specs.declared.fault.SparseFault.TheVariants as of_sparse
use Rattle.abt_chunks.specs.Cause.{IsOwn}
use Rattle.abt_verify.specs.declared.fault.VerifyFault.{VerifyFault}
use Rattle.abt_verify.specs.declared.fault.VerifyFault.TheVariants.{Sparse, Read, SourceChanged, BadBlock, Differs}
use Rattle.abt_verify.specs.declared.fault.VerifyFault.TheVariants.{PartitionRead}

abbrev pub verify_fault_number : VerifyFault → ℕ
verify_fault_number (Sparse f) = number_of f
verify_fault_number (Read d) = 11
verify_fault_number SourceChanged = 14
verify_fault_number (BadBlock n) = 15
verify_fault_number (Differs n) = 35
verify_fault_number (PartitionRead d) = 37

-- a fault of the machine that reads
abbrev pub verify_fault_of : SparseFault → VerifyFault
verify_fault_of (of_sparse.Read d) = Read d
verify_fault_of f = Sparse f

-- Of a sparse image: 11 comes where the input has failed, 37 where the partition has, and each count of faults is as
-- before where that device isn't named. The reason that it gave is handed on. 14 and 15 never come.
abbrev pub HasVerifyCause : VerifyFault → ℕ → ℕ → ℕ → ℕ → Type 0
HasVerifyCause (Sparse f) r r' p p' = IsOwn f × (r' ≡ r) × (p' ≡ p)
HasVerifyCause (Read d) r r' p p' = (r < r') × (d ≡ Failed) × (p' ≡ p)
HasVerifyCause (PartitionRead d) r r' p p' = (p < p') × (d ≡ Failed) × (r' ≡ r)
HasVerifyCause (Differs n) r r' p p' = (r' ≡ r) × (p' ≡ p)
HasVerifyCause SourceChanged r r' p p' = ⊥
HasVerifyCause (BadBlock n) r r' p p' = ⊥

abbrev pub VerifyRises : {X : Type 0} → Result X VerifyFault → ℕ → ℕ → ℕ → ℕ → Type 0
VerifyRises (Ok x) r r' p p' = (r' ≡ r) × (p' ≡ p)
VerifyRises (Err f) r r' p p' = HasVerifyCause f r r' p p'

-- Of the bytes of a raw image: the same, and 14 comes where a source that doesn't model its content gives fewer than it
-- has said. 1 to 10 never come, nor 15.
abbrev pub HasRawCause : VerifyFault → Bool → ℕ → ℕ → ℕ → ℕ → Type 0
HasRawCause (Sparse f) models r r' p p' = ⊥
HasRawCause SourceChanged models r r' p p' = (models ≡ false) × (r' ≡ r) × (p' ≡ p)
HasRawCause f models r r' p p' = HasVerifyCause f r r' p p'

abbrev pub RawRises : {X : Type 0} → Result X VerifyFault → Bool → ℕ → ℕ → ℕ → ℕ → Type 0
RawRises (Ok x) models r r' p p' = (r' ≡ r) × (p' ≡ p)
RawRises (Err f) models r r' p p' = HasRawCause f models r r' p p'

-- the same with 15, which is the size of a block and no device's failure
abbrev pub RawCause : {X : Type 0} → Result X VerifyFault → Bool → ℕ → ℕ → ℕ → ℕ → Type 0
RawCause (Err (BadBlock n)) models r r' p p' = (r' ≡ r) × (p' ≡ p)
RawCause a models r r' p p' = RawRises a models r r' p p'

-- and of comparing a part alone
abbrev pub PartCause : Option VerifyFault → ℕ → ℕ → Type 0
PartCause None p p' = p' ≡ p
PartCause (Some (PartitionRead d)) p p' = (p < p') × (d ≡ Failed)
PartCause (Some (Differs n)) p p' = p' ≡ p
PartCause (Some f) p p' = ⊥

-- or a piece of a raw image
abbrev pub PieceCause : Option VerifyFault → Bool → ℕ → ℕ → ℕ → ℕ → Type 0
PieceCause None models r r' p p' = (r' ≡ r) × (p' ≡ p)
PieceCause (Some f) models r r' p p' = HasRawCause f models r r' p p'

-- why fewer bytes of a raw image came than were asked for
abbrev pub short_fault : Option DeviceFault → ℕ → ℕ → Option VerifyFault
short_fault (Some d) came wanted = Some (Read d)
short_fault None came wanted = if nat_lt came wanted then Some SourceChanged else None
