-- Why a sparse or a raw image is not delivered, from why an opened one is not.
use Rattle.std.proofs.Common.{◌≡◌, ℕ, ◌+◌, ◌≤◌, Bool, List, length, Result, Ok, Err, sym, ap, ◌∙◌, arith}
use Rattle.std.specs.Prelude.{IsTrue, IfErr, OnOk, ◌*◌, ◌^◌, ◌-◌, ◌<◌, ◌%◌}
use Rattle.std.proofs.Math.Nat.{mul-le-mul_right}
use Rattle.abt_sparse.specs.Reading.{outcome}
use Rattle.abt_sparse.specs.Block.{classify}
use Rattle.abt_runs.specs.Sparse.{blocks_in}
use Rattle.abt_flash.specs.Raw.{FillsBlocks, IsAllowed, IsFilled, RawRefused}
use Rattle.abt_flash.specs.Devices.{Counts}
use Rattle.abt_flash.specs.Delivering.{RefusedDelivery, Room, StopsFor}
use Rattle.abt_flash.specs.Going.{StopsIn}
use Rattle.abt_flash.specs.Sparse.{Fits, IsImageOutcome, SparseRefused, size_in}
use Rattle.abt_flash_faults.specs.declared.fault.Cause.{Cause}
use Rattle.abt_flash_faults.specs.declared.fault.Cause.TheVariants as causes
use Rattle.abt_flash.specs.declared.answer.Delivered.{Delivered}
use Rattle.abt_flash_faults.specs.declared.fault.FlashFault.{FlashFault}
use Rattle.abt_flash_faults.specs.declared.fault.FlashFault.TheVariants.{Sparse, Read, Write, TooLarge, SourceChanged}
use Rattle.abt_flash_faults.specs.declared.fault.FlashFault.TheVariants.{BadBlock, LimitTooSmall, PartitionTooSmall}
use Rattle.abt_flash_faults.specs.declared.fault.FlashFault.TheVariants.{Sync, Stopped, NoSuchPiece}

-- an opened image is the one that is read
pub record Opens (x : List ℕ) (b n : ℕ) : Type 0 where
  pub image : IsImageOutcome (outcome x)
  pub size : size_in (outcome x) ≡ b
  pub count : length (blocks_in (outcome x)) ≡ n

fits_of : (x : List ℕ) (b n limit size : ℕ) → Opens x b n → Room limit b n size → Fits x limit size
fits_of x b n limit size o room = record { image = o.image; room = rw (o.size, o.count) room }

-- no device has failed more often at the first of two times
pub record NoFewer (a b : Counts) : Type 0 where
  pub read : a.read_faults ≤ b.read_faults
  pub write : a.write_faults ≤ b.write_faults
  pub spool : a.spool_faults ≤ b.spool_faults
  pub put : a.put_faults ≤ b.put_faults

pub stops_since : (c : Cause) (source spool : Bool) (a b z : Counts) → NoFewer a b → StopsFor c source spool b z
    → StopsFor c source spool a z
stops_since (causes.Read d) source spool a b z le h = let x = le.read in let y = h.0 in (omega (arith, y, x), h.1)
stops_since (causes.Write d) source spool a b z le h = let x = le.put in let y = h.0 in (omega (arith, y, x), h.1)
stops_since causes.SourceChanged source spool a b z le h = h
stops_since (causes.Sync d) source spool a b z le h = let x = le.put in let y = h.0 in (omega (arith, y, x), h.1)
stops_since (causes.SpoolWrite d) source spool a b z le h = let x = le.write in let y = h.0 in
    (omega (arith, y, x), h.1)
stops_since (causes.SpoolRead d) source spool a b z le h = let x = le.spool in let y = h.0 in (omega (arith, y, x), h.1)
stops_since causes.SpoolChanged source spool a b z le h = h

-- an image that has room is refused after its first pieces by a stop alone
pub rest_refuses : (r : Result Delivered FlashFault) (limit b n size made : ℕ) (source spool : Bool) (a c z : Counts)
    → NoFewer a c → Room limit b n size → IfErr r (λ e. StopsIn e made source spool c z)
    → IfErr r (λ e. RefusedDelivery e limit b n size made source spool a z)
rest_refuses (Ok d) limit b n size made source spool a c z le room h = tt
rest_refuses (Err (Stopped j s)) limit b n size made source spool a c z le room h =
    (room, h.0, stops_since s source spool a c z le h.1)
rest_refuses (Err (NoSuchPiece j)) limit b n size made source spool a c z le room h = absurd h
rest_refuses (Err (Read d)) limit b n size made source spool a c z le room h = absurd h
rest_refuses (Err SourceChanged) limit b n size made source spool a c z le room h = absurd h
rest_refuses (Err (Sparse f)) limit b n size made source spool a c z le room h = absurd h
rest_refuses (Err (Write d)) limit b n size made source spool a c z le room h = absurd h
rest_refuses (Err TooLarge) limit b n size made source spool a c z le room h = absurd h
rest_refuses (Err (BadBlock k)) limit b n size made source spool a c z le room h = absurd h
rest_refuses (Err (LimitTooSmall k)) limit b n size made source spool a c z le room h = absurd h
rest_refuses (Err (PartitionTooSmall k)) limit b n size made source spool a c z le room h = absurd h
rest_refuses (Err (Sync d)) limit b n size made source spool a c z le room h = absurd h

pub sparse_fault : (e : FlashFault) (x : List ℕ) (limit b n size made : ℕ) (source spool : Bool) (a c z : Counts)
    → NoFewer a c → (IsTrue source → Opens x b n) → RefusedDelivery e limit b n size made source spool c z
    → SparseRefused e x limit size made source spool a z
sparse_fault (LimitTooSmall least) x limit b n size made source spool a c z le o h =
    (h.1, λ t. ((o t).image, h.0 ∙ ap (λ (k : ℕ). 64 + k) (sym (o t).size)))
sparse_fault (PartitionTooSmall need) x limit b n size made source spool a c z le o h =
    (h.2, λ t. let y = o t in (y.image, rw y.size h.0, rw (y.size, y.count) h.1))
sparse_fault (Read d) x limit b n size made source spool a c z le o h = let y = h.1 in let m = le.read in
    (omega (arith, y, m), h.2)
sparse_fault SourceChanged x limit b n size made source spool a c z le o h = h.1
sparse_fault (NoSuchPiece k) x limit b n size made source spool a c z le o h =
    (h.1, h.2, λ t. fits_of x b n limit size (o t) h.0)
sparse_fault (Stopped j s) x limit b n size made source spool a c z le o h =
    (h.1, stops_since s source spool a c z le h.2, λ t. fits_of x b n limit size (o t) h.0)
sparse_fault (Sparse f) x limit b n size made source spool a c z le o h = absurd h
sparse_fault (Write d) x limit b n size made source spool a c z le o h = absurd h
sparse_fault TooLarge x limit b n size made source spool a c z le o h = absurd h
sparse_fault (BadBlock k) x limit b n size made source spool a c z le o h = absurd h
sparse_fault (Sync d) x limit b n size made source spool a c z le o h = absurd h

pub sparse_refused : (r : Result Delivered FlashFault) (x : List ℕ) (limit b n size made : ℕ) (source spool : Bool)
    (a c z : Counts) → NoFewer a c → (IsTrue source → Opens x b n)
    → IfErr r (λ e. RefusedDelivery e limit b n size made source spool c z)
    → IfErr r (λ e. SparseRefused e x limit size made source spool a z)
sparse_refused (Ok d) x limit b n size made source spool a c z le o h = tt
sparse_refused (Err e) x limit b n size made source spool a c z le o h =
    sparse_fault e x limit b n size made source spool a c z le o h

pub fits_sparse : (x : List ℕ) (b n limit size : ℕ) → Opens x b n → Room limit b n size → Fits x limit size
fits_sparse x b n limit size o room = fits_of x b n limit size o room

-- ---- a raw image

-- a raw image is opened as n blocks
pub record OpensRaw (b n : ℕ) (x : List ℕ) (long : ℕ) (source : Bool) : Type 0 where
  pub fills : FillsBlocks b long
  pub filled : IsFilled n b long
  pub told : IsTrue source → length (classify b x) ≡ n

within_most : (n b long : ℕ) → n ≤ 2 ^ 32 - 1 → long ≤ n * b → long ≤ (2 ^ 32 - 1) * b
within_most n b long few covers = omega (arith, mul-le-mul_right b few, covers)

-- what is known of an opened one
pub opens_runs : (long n b : ℕ) (x : List ℕ) (source : Bool) → 4 ≤ b → b ≤ 65536 → b % 4 ≡ 0 → long ≤ n * b
    → n * b < long + b → n < 2 ^ 32
    → (IsTrue source → length (classify b x) ≡ n) → OpensRaw b n x long source
opens_runs long n b x source some window words covers last few told = record {
  fills = record { least = some; most = window; words = words; few = within_most n b long (omega (arith, few)) covers };
  filled = record { covers = covers; last = last };
  told = told;
}

pub allowed_in : (b n : ℕ) (x : List ℕ) (long limit size : ℕ) (source : Bool) → OpensRaw b n x long source
    → Room limit b n size → IsAllowed b x long limit size source
allowed_in b n x long limit size source o room = record {
  fills = o.fills;
  each = room.each;
  count = n;
  filled = o.filled;
  all = room.all;
  room = λ t. rw (o.told t) room;
}

raw_fault : (e : FlashFault) (x : List ℕ) (long limit b n size made : ℕ) (source spool : Bool) (a z : Counts)
    → OpensRaw b n x long source → RefusedDelivery e limit b n size made source spool a z
    → RawRefused e b x long limit size made source spool a z
raw_fault (LimitTooSmall least) x long limit b n size made source spool a z o h = (o.fills, h.0, h.1)
raw_fault (PartitionTooSmall need) x long limit b n size made source spool a z o h =
    (o.fills, h.0, h.2, (n, o.filled, h.1), λ t. rw (o.told t) h.1)
raw_fault (Read d) x long limit b n size made source spool a z o h =
    (allowed_in b n x long limit size source o h.0, h.1, h.2)
raw_fault SourceChanged x long limit b n size made source spool a z o h =
    (allowed_in b n x long limit size source o h.0, h.1)
raw_fault (NoSuchPiece k) x long limit b n size made source spool a z o h =
    (allowed_in b n x long limit size source o h.0, h.1, h.2)
raw_fault (Stopped j c) x long limit b n size made source spool a z o h =
    (allowed_in b n x long limit size source o h.0, h.1, h.2)
raw_fault (Sparse f) x long limit b n size made source spool a z o h = absurd h
raw_fault (Write d) x long limit b n size made source spool a z o h = absurd h
raw_fault TooLarge x long limit b n size made source spool a z o h = absurd h
raw_fault (BadBlock k) x long limit b n size made source spool a z o h = absurd h
raw_fault (Sync d) x long limit b n size made source spool a z o h = absurd h

pub raw_refused : (r : Result Delivered FlashFault) (x : List ℕ) (long limit b n size made : ℕ) (source spool : Bool)
    (a z : Counts) → OpensRaw b n x long source
    → IfErr r (λ e. RefusedDelivery e limit b n size made source spool a z)
    → IfErr r (λ e. RawRefused e b x long limit size made source spool a z)
raw_refused (Ok d) x long limit b n size made source spool a z o h = tt
raw_refused (Err e) x long limit b n size made source spool a z o h =
    raw_fault e x long limit b n size made source spool a z o h

pub raw_allowed : (r : Result Delivered FlashFault) (b n : ℕ) (x : List ℕ) (long limit size : ℕ) (source : Bool)
    → OpensRaw b n x long source
    → OnOk r (Room limit b n size) → OnOk r (IsAllowed b x long limit size source)
raw_allowed (Ok d) b n x long limit size source o room = allowed_in b n x long limit size source o room
raw_allowed (Err e) b n x long limit size source o room = tt
