-- The comparison of a part of an image with its place on a partition.
use Rattle.std.specs.Prelude.{◌≡◌, ℕ, ◌+◌, ◌-◌, ◌*◌, ◌<◌, ◌≤◌, List, Option, Some, None, Result, Ok, Err, IsTrue}
use Rattle.std.specs.Prelude.{IfNone}
use Rattle.abt_io.specs.Lent.{OnlyReads}
use Rattle.abt_io.specs.declared.device.Source as sources
use Rattle.abt_chunks.specs.declared.walk.Part.{Part}
use Rattle.abt_chunks.specs.declared.walk.Part.TheVariants as parts
use Rattle.abt_verify.specs.Fault.{PartCause}
use Rattle.abt_verify.specs.Standing.{FirstDiffers, Stands}
use Rattle.abt_verify.specs.declared.fault.VerifyFault.{VerifyFault}
use Rattle.abt_verify.specs.declared.fault.VerifyFault.TheVariants.{Differs}

-- how many bytes the cells of a part say
abbrev pub compared_len : Part → ℕ
compared_len (parts.Raw n) = n
compared_len (parts.Words word n) = 4 * n
compared_len q = 0

-- a part that half a window has room for
abbrev pub FitsHalf : Part → Type 0
FitsHalf (parts.Raw n) = (0 < n) × (n ≤ 32768)
FitsHalf (parts.Words word n) = (0 < n) × (n ≤ 8192)
FitsHalf q = Unit {0}

-- a part for which the partition is not read
abbrev pub ReadsNothing : Part → Type 0
ReadsNothing (parts.Raw n) = ⊥
ReadsNothing (parts.Words word n) = ⊥
ReadsNothing q = Unit {0}

-- where a comparison finds a difference, it is the first one
abbrev pub PartDiffers : Option VerifyFault → List ℕ → List (Option ℕ) → Type 0
PartDiffers (Some (Differs n)) p cs = FirstDiffers p cs n
PartDiffers r p cs = Unit {0}

-- what a comparison returns
abbrev pub answer_to : Option VerifyFault → Result (Unit {0}) VerifyFault
answer_to None = Ok tt
answer_to (Some f) = Err f

-- n bytes of a source were read, and no more than so many, by at most a call for each and one more
pub record ReadsBytes (n most : ℕ) {A : Type 0} (s : sources.Ghosts A) (old new : A) : Type 0 where
  pub received : s.given new ≡ s.given old + n
  pub small : n ≤ most
  pub reads : s.reads new ≤ s.reads old + n + 1

-- Cells against what is stored on a partition: they stand there, or the first byte that differs is reported, or the
-- partition could not be read. It stays as it is.
pub record PartCompared {A : Type 0} (p : sources.Ghosts A) (fault : Option VerifyFault) (cells : List (Option ℕ))
    (old new : A) : Type 0 where
  pub stands : IsTrue p.models → IfNone fault (Stands (p.content old) cells)
  pub differs : IsTrue p.models → PartDiffers fault (p.content old) cells
  pub cause : PartCause fault (p.read_faults old) (p.read_faults new)
  pub partition : OnlyReads (answer_to fault) p old new

-- a source is only read, at most so many bytes of it
pub record ReadsUpTo {X E : Type 0} (r : Result X E) (most : ℕ) {A : Type 0} (s : sources.Ghosts A) (old new : A)
    : Type 0 where
  pub bytes : ReadsBytes (s.given new - s.given old) most s old new
  pub only : OnlyReads r s old new

-- and any number of bytes
pub record ReadsMore {X E : Type 0} (r : Result X E) {A : Type 0} (s : sources.Ghosts A) (old new : A) : Type 0 where
  pub only : OnlyReads r s old new
  pub given : s.given old ≤ s.given new
