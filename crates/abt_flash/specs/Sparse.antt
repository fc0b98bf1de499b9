-- The delivery of the sparse image at the beginning of a source, in terms of reading it.
use Rattle.std.specs.Prelude.{◌≡◌, ℕ, ◌+◌, ◌-◌, ◌*◌, ◌≤◌, ◌<◌, Bool, true, false, IsTrue, List, [], length, Option}
use Rattle.std.specs.Prelude.{Result, OnOk, IfOk, IfErr}
use Rattle.abt_sparse.specs.Number.{number_of}
use Rattle.abt_sparse.specs.Reading.{Outcome, Image, Fault, outcome}
use Rattle.abt_runs.specs.Sparse.{blocks_in}
use Rattle.abt_io.specs.declared.device.DeviceFault.TheVariants.{Failed}
use Rattle.abt_io.specs.declared.device.Source as sources
use Rattle.abt_io.specs.declared.device.Input as inputs
use Rattle.abt_io.specs.declared.device.Output as outputs
use Rattle.abt_io.specs.declared.device.Spool as spools
use Rattle.abt_io.specs.declared.device.Partition as partitions
use Rattle.abt_io.specs.declared.meter.Meter.{Meter}
use Rattle.abt_flash.specs.Devices.{Counts, counts}
use Rattle.abt_flash.specs.Delivering.{HasDelivered, ImageBlocks, Room, StopsFor}
use Rattle.abt_flash.specs.declared.answer.Delivered.{Delivered}
use Rattle.abt_flash_faults.specs.declared.fault.FlashFault.{FlashFault}
use Rattle.abt_flash_faults.specs.declared.fault.FlashFault.TheVariants.{Sparse, Read, Write, TooLarge, SourceChanged}
use Rattle.abt_flash_faults.specs.declared.fault.FlashFault.TheVariants.{BadBlock, LimitTooSmall, PartitionTooSmall}
use Rattle.abt_flash_faults.specs.declared.fault.FlashFault.TheVariants.{Sync}
use Rattle.abt_flash_faults.specs.declared.fault.FlashFault.TheVariants.{Stopped, NoSuchPiece}

-- the bytes begin with an image
abbrev pub IsImageOutcome : Outcome → Type 0
IsImageOutcome (Image h cs rest) = Unit {0}
IsImageOutcome (Fault f cells) = ⊥

-- how many bytes its blocks have, and what is after it
abbrev pub size_in : Outcome → ℕ
size_in (Image h cs rest) = h.blk_sz
size_in (Fault f cells) = 0

abbrev pub rest_in : Outcome → List ℕ
rest_in (Image h cs rest) = rest
rest_in (Fault f cells) = []

-- how many bytes the image at the beginning of x takes
abbrev pub image_length : List ℕ → ℕ
image_length x = length x - length (rest_in (outcome x))

-- that image
abbrev pub sparse_image : List ℕ → ImageBlocks
sparse_image x = record { size = size_in (outcome x); blocks = blocks_in (outcome x) }

-- x begins with an image, the limit has room for each of its blocks, and the partition for all
pub record Fits (x : List ℕ) (limit size : ℕ) : Type 0 where
  pub image : IsImageOutcome (outcome x)
  pub room : Room limit (size_in (outcome x)) (length (blocks_in (outcome x))) size

-- Why the sparse image at the beginning of x is not delivered after its first pieces, in order: its own fault, the
-- limit, the partition, planning, and then a stop alone. A source that fails or has changed is reported at any time.
abbrev pub SparseRefused : FlashFault → List ℕ → ℕ → ℕ → ℕ → Bool → Bool → Counts → Counts → Type 0
SparseRefused (Sparse f) x limit size made source spool a z =
    (number_of f ≤ 10) × (IsTrue source → (cells : List (Option ℕ)) × (outcome x ≡ Fault f cells))
SparseRefused (Read d) x limit size made source spool a z = (a.read_faults < z.read_faults) × (d ≡ Failed)
SparseRefused SourceChanged x limit size made source spool a z = source ≡ false
SparseRefused (LimitTooSmall least) x limit size made source spool a z =
    (limit < least) × (IsTrue source → IsImageOutcome (outcome x) × (least ≡ 64 + size_in (outcome x)))
SparseRefused (PartitionTooSmall need) x limit size made source spool a z =
    (size < need) × (IsTrue source → IsImageOutcome (outcome x) × (64 + size_in (outcome x) ≤ limit)
    × (need ≡ length (blocks_in (outcome x)) * size_in (outcome x)))
SparseRefused (NoSuchPiece k) x limit size made source spool a z =
    (0 < k) × (k ≤ made) × (IsTrue source → Fits x limit size)
SparseRefused (Stopped j c) x limit size made source spool a z =
    (made < j) × StopsFor c source spool a z × (IsTrue source → Fits x limit size)
SparseRefused (Write d) x limit size made source spool a z = ⊥
SparseRefused TooLarge x limit size made source spool a z = ⊥
SparseRefused (BadBlock q) x limit size made source spool a z = ⊥
SparseRefused (Sync d) x limit size made source spool a z = ⊥

-- What delivering the sparse image at the beginning of a source does, after its first pieces.
pub record SparseDelivered {A B C : Type 0} (limit made : ℕ)
    (s : sources.Ghosts A) (f : inputs.Ghosts B) (o : outputs.Ghosts B) (l : spools.Ghosts B) (q : sources.Ghosts C)
    (p : partitions.Ghosts C) (r : Result Delivered FlashFault) (a a' : A) (b b' : B) (c c' : C) (m m' : Meter)
    : Type 0 where
  pub granted : IsTrue s.models → OnOk r (Fits (s.content a) limit (q.size c))
  pub refused : IfErr r (λ e. SparseRefused e (s.content a) limit (q.size c) made s.models f.models
      (counts s f o l p a b c) (counts s f o l p a' b' c'))
  pub image : HasDelivered true (sparse_image (s.content a)) limit made 0 512 s f o l q p r a a' b b' c c' m m'
  pub long : IsTrue s.models → IfOk r (λ d. length (o.written b')
      ≤ length (o.written b) + image_length (s.content a) + 80 * d.pieces)
