-- The delivery of a raw image.
use Rattle.std.specs.Prelude.{◌≡◌, ℕ, ◌+◌, ◌-◌, ◌*◌, ◌%◌, ◌^◌, ◌≤◌, ◌<◌, Bool, false, IsTrue, List, length}
use Rattle.std.specs.Prelude.{Result, OnOk, IfOk, IfErr}
use Rattle.abt_sparse.specs.Block.{classify}
use Rattle.abt_io.specs.declared.device.DeviceFault.TheVariants.{Failed}
use Rattle.abt_io.specs.declared.device.Source as sources
use Rattle.abt_io.specs.declared.device.Input as inputs
use Rattle.abt_io.specs.declared.device.Output as outputs
use Rattle.abt_io.specs.declared.device.Spool as spools
use Rattle.abt_io.specs.declared.device.Partition as partitions
use Rattle.abt_io.specs.declared.meter.Meter.{Meter}
use Rattle.abt_flash.specs.Devices.{Counts, counts}
use Rattle.abt_flash.specs.Delivering.{HasDelivered, ImageBlocks, Room, StopsFor}
use Rattle.abt_flash.specs.declared.answer.Delivered.{Delivered}
use Rattle.abt_flash_faults.specs.declared.fault.FlashFault.{FlashFault}
use Rattle.abt_flash_faults.specs.declared.fault.FlashFault.TheVariants.{Sparse, Read, Write, TooLarge, SourceChanged}
use Rattle.abt_flash_faults.specs.declared.fault.FlashFault.TheVariants.{BadBlock, LimitTooSmall, PartitionTooSmall}
use Rattle.abt_flash_faults.specs.declared.fault.FlashFault.TheVariants.{Sync}
use Rattle.abt_flash_faults.specs.declared.fault.FlashFault.TheVariants.{Stopped, NoSuchPiece}

-- the image that the bytes x are in blocks of b bytes
abbrev pub raw_image : ℕ → List ℕ → ImageBlocks
raw_image b x = record { size = b; blocks = classify b x }

-- b is a size that blocks may have, and an image can have as many of them as so many bytes fill
pub record FillsBlocks (b long : ℕ) : Type 0 where
  pub least : 4 ≤ b
  pub most : b ≤ 65536
  pub words : b % 4 ≡ 0
  pub few : long ≤ (2 ^ 32 - 1) * b

-- n blocks of b bytes are what so many bytes fill, the last of them maybe in part
pub record IsFilled (n b long : ℕ) : Type 0 where
  pub covers : long ≤ n * b
  pub last : n * b < long + b

-- The raw image x, of `long` bytes, can be delivered in blocks of b bytes: there are such blocks, the limit has room
-- for each, and the partition for all.
pub record IsAllowed (b : ℕ) (x : List ℕ) (long limit size : ℕ) (source : Bool) : Type 0 where
  pub fills : FillsBlocks b long
  pub each : 64 + b ≤ limit
  pub count : ℕ
  pub filled : IsFilled count b long
  pub all : count * b ≤ size
  pub room : IsTrue source → Room limit b (length (classify b x)) size

-- Why the raw image x, of `long` bytes, is not delivered in blocks of b bytes after its first pieces. The order holds
-- for every source: the block size, too many blocks, the limit, the partition, planning, and then a stop alone.
abbrev pub RawRefused : FlashFault → ℕ → List ℕ → ℕ → ℕ → ℕ → ℕ → Bool → Bool → Counts → Counts → Type 0
RawRefused (BadBlock q) b x long limit size made source spool a z = (q ≡ b) × ((4 ≤ b) × (b ≤ 65536) × (b % 4 ≡ 0) → ⊥)
RawRefused TooLarge b x long limit size made source spool a z =
    (4 ≤ b) × (b ≤ 65536) × (b % 4 ≡ 0) × ((2 ^ 32 - 1) * b < long)
RawRefused (LimitTooSmall least) b x long limit size made source spool a z =
    FillsBlocks b long × (least ≡ 64 + b) × (limit < least)
RawRefused (PartitionTooSmall need) b x long limit size made source spool a z =
    FillsBlocks b long × (64 + b ≤ limit) × (size < need)
    × ((n : ℕ) × IsFilled n b long × (need ≡ n * b)) × (IsTrue source → need ≡ length (classify b x) * b)
RawRefused (Read d) b x long limit size made source spool a z =
    IsAllowed b x long limit size source × (a.read_faults < z.read_faults) × (d ≡ Failed)
RawRefused SourceChanged b x long limit size made source spool a z =
    IsAllowed b x long limit size source × (source ≡ false)
RawRefused (NoSuchPiece k) b x long limit size made source spool a z =
    IsAllowed b x long limit size source × (0 < k) × (k ≤ made)
RawRefused (Stopped j c) b x long limit size made source spool a z =
    IsAllowed b x long limit size source × (made < j) × StopsFor c source spool a z
RawRefused (Sparse f) b x long limit size made source spool a z = ⊥
RawRefused (Write d) b x long limit size made source spool a z = ⊥
RawRefused (Sync d) b x long limit size made source spool a z = ⊥

-- What delivering the raw image that a source holds does, in blocks of n bytes, after its first pieces.
pub record RawDelivered {A B C : Type 0} (forward : Bool) (n limit made : ℕ)
    (s : sources.Ghosts A) (f : inputs.Ghosts B) (o : outputs.Ghosts B) (l : spools.Ghosts B) (q : sources.Ghosts C)
    (p : partitions.Ghosts C) (r : Result Delivered FlashFault) (a a' : A) (b b' : B) (c c' : C) (m m' : Meter)
    : Type 0 where
  pub allowed : OnOk r (IsAllowed n (s.content a) (s.size a) limit (q.size c) s.models)
  pub refused : IfErr r (λ e. RawRefused e n (s.content a) (s.size a) limit (q.size c) made s.models f.models
      (counts s f o l p a b c) (counts s f o l p a' b' c'))
  pub image : HasDelivered forward (raw_image n (s.content a)) limit made n 512 s f o l q p r a a' b b' c c' m m'
  pub long : IsTrue s.models → IfOk r (λ d. length (o.written b')
      ≤ length (o.written b) + length (classify n (s.content a)) * (n + 16) + 80 * d.pieces)
