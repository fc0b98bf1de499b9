-- The contract of delivering an image piece by piece: for the spool, for the partition, and for every intermediate
-- state on the way.
use Rattle.std.specs.Prelude.{◌≡◌, ℕ, ◌+◌, ◌-◌, ◌*◌, ◌≤◌, ◌<◌, List, [], ◌∷◌, ◌++◌, length, take, drop, replicate, max}
use Rattle.std.specs.Prelude.{Bool, false, IsTrue, Result, Ok, Err, OnOk, IfOk, IfErr, ◌⊎◌}
use Rattle.std.specs.List.{concat}
use Rattle.abt_io.specs.Frame.{last_cut}
use Rattle.abt_io.specs.declared.device.DeviceFault.TheVariants.{Failed}
use Rattle.abt_io.specs.declared.device.Source as sources
use Rattle.abt_io.specs.declared.device.Input as inputs
use Rattle.abt_io.specs.declared.device.Output as outputs
use Rattle.abt_io.specs.declared.device.Spool as spools
use Rattle.abt_io.specs.declared.device.Partition as partitions
use Rattle.abt_io.specs.declared.meter.Meter.{Meter}
use Rattle.abt_io.specs.Lent.{OnlyReads}
use Rattle.abt_io.specs.Moment.{Moment, Past, MayLeave, EachSince, moment_of}
use Rattle.abt_sparse.specs.Block.{Block, Skip, cells, over}
use Rattle.abt_sparse.specs.Runs.{segments, joined, Division}
use Rattle.abt_sparse.specs.Pieces.{pieces}
use Rattle.abt_sparse.specs.Mending.{Mendable}
use Rattle.abt_runs.specs.declared.runs.BlockRuns as images
use Rattle.abt_pieces.specs.Contents.{written_in}
use Rattle.abt_pieces.specs.Image.{IsPlainImage}
use Rattle.abt_placed.specs.Unfinished.{IsNoImage}
use Rattle.abt_flash.specs.Devices.{Counts, PartitionState, SpoolState, all_bytes, all_calls, counts, partition_state}
use Rattle.abt_flash.specs.Devices.{spool_state}
use Rattle.abt_flash_faults.specs.Fault.{refused_syncs}
use Rattle.abt_flash_faults.specs.declared.fault.Cause.{Cause}
use Rattle.abt_flash_faults.specs.declared.fault.Cause.TheVariants as causes
use Rattle.abt_flash.specs.declared.answer.Delivered.{Delivered}
use Rattle.abt_flash_faults.specs.declared.fault.FlashFault.{FlashFault}
use Rattle.abt_flash_faults.specs.declared.fault.FlashFault.TheVariants.{Sparse, Read, Write, TooLarge, SourceChanged}
use Rattle.abt_flash_faults.specs.declared.fault.FlashFault.TheVariants.{BadBlock, LimitTooSmall, PartitionTooSmall}
use Rattle.abt_flash_faults.specs.declared.fault.FlashFault.TheVariants.{Sync}
use Rattle.abt_flash_faults.specs.declared.fault.FlashFault.TheVariants.{Stopped, NoSuchPiece}

-- ---- an image after its first pieces

-- how many blocks the first pieces have
abbrev pub blocks_in_first : ℕ → ℕ → List Block → ℕ → ℕ
blocks_in_first limit b l made = length (joined (take made (segments limit b l)))

-- the blocks after so many, which are skipped
abbrev pub blocks_behind : ℕ → List Block → List Block
blocks_behind n l = replicate n Skip ++ drop n l

-- of these only the blocks before block `end`
abbrev pub blocks_up_to : ℕ → ℕ → List Block → List Block
blocks_up_to n end l = take end (blocks_behind n l)

-- the pieces after the first ones
abbrev pub pieces_behind : ℕ → ℕ → List Block → ℕ → List (List ℕ)
pieces_behind limit b l made = drop made (pieces limit b l)

-- ---- what a spool was given

-- these bytes are a beginning of those
pub record Begins (front whole : List ℕ) : Type 0 where
  pub more : List ℕ
  pub joined : front ++ more ≡ whole

-- so many of these pieces, whole, were written after what was stored there
pub record GaveWhole (old new : List ℕ) (pieces : List (List ℕ)) : Type 0 where
  pub count : ℕ
  pub gave : new ≡ old ++ concat (take count pieces)

-- That is all; or it is so up to the last clear, and after that comes what is no image, whatever follows it.
abbrev pub GaveNoPart : List ℕ → List ℕ → List ℕ → List (List ℕ) → Type 0
GaveNoPart old new cuts pieces = GaveWhole old new pieces
    ⊎ (GaveWhole old (take (last_cut cuts) new) pieces × IsNoImage (drop (last_cut cuts) new))

-- nothing, an image of blocks of b bytes with nothing after it, or what is no image, whatever follows it
abbrev pub IsWholeOrNone : ℕ → List ℕ → Type 0
IsWholeOrNone b x = (x ≡ []) ⊎ (((n : ℕ) × IsPlainImage b n x) ⊎ IsNoImage x)

-- Nothing was written, nor cleared; or that is after the last clear.
abbrev pub EndsWhole : ℕ → List ℕ → List ℕ → List ℕ → List ℕ → Type 0
EndsWhole b old new old_cuts new_cuts =
    ((new ≡ old) × (new_cuts ≡ old_cuts)) ⊎ IsWholeOrNone b (drop (last_cut new_cuts) new)

-- where a spool was cleared, the newest first, once each piece was written after a clear of its own, the first after
-- `at` bytes
abbrev pub with_cuts : List ℕ → ℕ → List (List ℕ) → List ℕ
with_cuts cuts at [] = cuts
with_cuts cuts at (x ∷ xs) = with_cuts (at ∷ cuts) (at + length x) xs

-- after these clears, the newest first, all was written from `start` up to `end`, and at most the limit after each
abbrev pub WithinLimit : ℕ → ℕ → ℕ → List ℕ → Type 0
WithinLimit limit start end [] = start ≡ end
WithinLimit limit start end (cut ∷ cuts) = (cut ≤ end) × (end ≤ cut + limit) × WithinLimit limit start cut cuts

-- each piece that a spool was given in a call, also one that was only begun, is within the limit
pub record PiecesFit (limit : ℕ) (old_cuts new_cuts : List ℕ) (old_length new_length : ℕ) : Type 0 where
  pub clears : List ℕ
  pub joined : new_cuts ≡ clears ++ old_cuts
  pub fit : WithinLimit limit old_length new_length clears

-- ---- what a stop may leave

-- whatever a crash leaves in this state is mendable, with the first pieces whole: a delivery from the next piece on,
-- or from any before it, leaves it as p under the image
abbrev pub LeavesMendable : ℕ → ℕ → List Block → List ℕ → ℕ → Moment → Type 0
LeavesMendable limit b l p made m = (q : List ℕ) → MayLeave m q → Mendable b l p q (blocks_in_first limit b l made)

-- A call that began after so many pieces, and so many syncs, is one piece further for each sync that succeeded
-- since.
abbrev pub MendableThen : ℕ → ℕ → List Block → List ℕ → ℕ → ℕ → Moment → Type 0
MendableThen limit b l p made synced m = LeavesMendable limit b l p (made + (m.synced - synced)) m

-- In every intermediate state of a call that began after so many pieces, and after it, a stop leaves what a delivery
-- mends, where as much or more was whole before. The file stays the same.
pub record StaysMendable (limit b : ℕ) (l : List Block) (made : ℕ) (old new : Past)
    (before after : List ℕ) : Type 0 where
  pub same : new.file ≡ old.file
  pub since : (p : List ℕ) (done : ℕ) → made ≤ done → LeavesMendable limit b l p done (moment_of old before)
      → EachSince old.moments new.moments (MendableThen limit b l p made old.synced)
  pub now : (p : List ℕ) (done : ℕ) → made ≤ done → LeavesMendable limit b l p done (moment_of old before)
      → MendableThen limit b l p made old.synced (moment_of new after)

-- ---- what is returned

-- how many pieces were begun after the first ones, `made`
abbrev pub begun : ℕ → Result Delivered FlashFault → ℕ
begun made (Ok d) = made + d.pieces
begun made (Err (Stopped j c)) = j
begun made (Err (NoSuchPiece k)) = k
begun made (Err f) = made

-- how many pieces were flashed and synced
abbrev pub finished : ℕ → Result Delivered FlashFault → ℕ
finished made (Ok d) = d.pieces
finished made (Err (Stopped j c)) = j - 1 - made
finished made (Err f) = 0

-- P of piece j, where all of it was written and its sync was refused
abbrev pub OnUnsyncedPiece : Result Delivered FlashFault → (ℕ → Type 0) → Type 0
OnUnsyncedPiece (Ok d) P = Unit {0}
OnUnsyncedPiece (Err (Stopped j (causes.Sync d))) P = P j
OnUnsyncedPiece (Err f) P = Unit {0}

-- P of piece j, where it was stopped in that piece
abbrev pub OnStop : Result Delivered FlashFault → (ℕ → Type 0) → Type 0
OnStop (Ok d) P = Unit {0}
OnStop (Err (Stopped j c)) P = P j
OnStop (Err f) P = Unit {0}

-- the result counts k pieces in all
abbrev pub CountsTo : Result Delivered FlashFault → ℕ → ℕ → Type 0
CountsTo (Ok d) made k = made + d.pieces ≡ k
CountsTo (Err (Stopped j c)) made k = j ≤ k
CountsTo (Err (NoSuchPiece j)) made k = j ≡ k
CountsTo (Err f) made k = Unit {0}

-- P, where a delivery was refused before its first piece
abbrev pub OnEarly : Result Delivered FlashFault → Type 0 → Type 0
OnEarly (Ok d) P = Unit {0}
OnEarly (Err (Stopped j c)) P = Unit {0}
OnEarly (Err f) P = P

-- Why a piece is not finished: the device that the cause names has failed in this call, and for no other reason than
-- that; or a source whose bytes passed models nothing, or a spool. A spool that has room for the limit is never full.
abbrev pub StopsFor : Cause → Bool → Bool → Counts → Counts → Type 0
StopsFor (causes.Read d) source spool a z = (a.read_faults < z.read_faults) × (d ≡ Failed)
StopsFor (causes.Write d) source spool a z = (a.put_faults < z.put_faults) × (d ≡ Failed)
StopsFor causes.SourceChanged source spool a z = source ≡ false
StopsFor (causes.Sync d) source spool a z = (a.put_faults < z.put_faults) × (d ≡ Failed)
StopsFor (causes.SpoolWrite d) source spool a z = (a.write_faults < z.write_faults) × (d ≡ Failed)
StopsFor (causes.SpoolRead d) source spool a z = (a.spool_faults < z.spool_faults) × (d ≡ Failed)
StopsFor causes.SpoolChanged source spool a z = IsTrue spool → ⊥

-- no device has failed
pub record NoneFailed (a z : Counts) : Type 0 where
  pub read : z.read_faults ≡ a.read_faults
  pub write : z.write_faults ≡ a.write_faults
  pub spool : z.spool_faults ≡ a.spool_faults
  pub put : z.put_faults ≡ a.put_faults

-- P, where a piece was flashed whole, also where it was not synced
abbrev pub OnFlashed : Result (Unit {0}) Cause → Type 0 → Type 0
OnFlashed (Ok u) P = P
OnFlashed (Err (causes.Sync d)) P = P
OnFlashed (Err c) P = Unit {0}

-- 1 where a sync was refused
abbrev pub unsynced_by : Result (Unit {0}) Cause → ℕ
unsynced_by (Ok u) = 0
unsynced_by (Err (causes.Sync d)) = 1
unsynced_by (Err c) = 0

-- The limit has room for each block, and the partition for all n of them.
pub record Room (limit b n size : ℕ) : Type 0 where
  pub each : 64 + b ≤ limit
  pub all : n * b ≤ size

-- Why an opened image of n blocks of b bytes is not delivered after its first pieces, in this order: the limit, the
-- partition, planning, and then a stop alone.
abbrev pub RefusedDelivery : FlashFault → ℕ → ℕ → ℕ → ℕ → ℕ → Bool → Bool → Counts → Counts → Type 0
RefusedDelivery (LimitTooSmall least) limit b n size made source spool a z = (least ≡ 64 + b) × (limit < least)
RefusedDelivery (PartitionTooSmall need) limit b n size made source spool a z =
    (64 + b ≤ limit) × (need ≡ n * b) × (size < need)
RefusedDelivery (Read d) limit b n size made source spool a z =
    Room limit b n size × (a.read_faults < z.read_faults) × (d ≡ Failed)
RefusedDelivery SourceChanged limit b n size made source spool a z = Room limit b n size × (source ≡ false)
RefusedDelivery (NoSuchPiece k) limit b n size made source spool a z = Room limit b n size × (0 < k) × (k ≤ made)
RefusedDelivery (Stopped j c) limit b n size made source spool a z =
    Room limit b n size × (made < j) × StopsFor c source spool a z
RefusedDelivery (Sparse f) limit b n size made source spool a z = ⊥
RefusedDelivery (Write d) limit b n size made source spool a z = ⊥
RefusedDelivery TooLarge limit b n size made source spool a z = ⊥
RefusedDelivery (BadBlock q) limit b n size made source spool a z = ⊥
RefusedDelivery (Sync d) limit b n size made source spool a z = ⊥

-- ---- what a delivery does

-- An image as a delivery knows it: how many bytes a block has, and its blocks.
pub record ImageBlocks : Type 0 where
  pub size : ℕ
  pub blocks : List Block

-- how many pieces it has within this limit
abbrev pub pieces_in : ℕ → ImageBlocks → ℕ
pieces_in limit i = length (pieces limit i.size i.blocks)

-- no division of it has fewer than k parts
abbrev pub IsLeast : ℕ → ℕ → ImageBlocks → Type 0
IsLeast limit k i = (parts : List (List Block)) → Division limit i.size i.blocks parts → k ≤ length parts

-- What a delivery of an image after its first pieces, `made`, returns. Where it was refused before its first piece,
-- nothing was touched; and after an Ok no device has failed.
pub record Delivers (source : Bool) (i : ImageBlocks) (limit made : ℕ) (untouched : Type 0)
    (r : Result Delivered FlashFault) (old new : Counts) : Type 0 where
  pub early : OnEarly r untouched
  pub some : IfOk r (λ d. 0 < d.pieces)
  pub counted : IsTrue source → CountsTo r made (pieces_in limit i)
  -- no division of the image within the limit has fewer parts
  pub least : IsTrue source → IfOk r (λ d. IsLeast limit (made + d.pieces) i)
  pub clean : OnOk r (NoneFailed old new)

-- What a spool was given by a call that delivers an image after its first pieces.
-- Forward, each from its beginning; or each with its headers last.
pub record GivesPieces (forward source spool : Bool) (i : ImageBlocks) (limit made : ℕ)
    (r : Result Delivered FlashFault) (old new : SpoolState) : Type 0 where
  -- its room stays, and after each clear at most the limit was written, also of a piece that was only begun
  pub room : new.size ≡ old.size
  pub fits : PiecesFit limit old.cuts new.cuts (length old.written) (length new.written)
  -- exactly the pieces that are left, each after a clear of its own
  pub written : IsTrue source → OnOk r (new.written ≡ old.written ++ concat (pieces_behind limit i.size i.blocks made))
  pub cuts : IsTrue source
      → OnOk r (new.cuts ≡ with_cuts old.cuts (length old.written) (pieces_behind limit i.size i.blocks made))
  -- where it was refused, forward a beginning of them
  pub begins : IsTrue forward → IsTrue source
      → Begins new.written (old.written ++ concat (pieces_behind limit i.size i.blocks made))
  -- headers last, some of them, and no part of an image after the last clear; whatever the source gives, there is
  -- nothing, an image, or none
  pub no_part : forward ≡ false → IsTrue source
      → GaveNoPart old.written new.written new.cuts (pieces_behind limit i.size i.blocks made)
  pub ends : forward ≡ false → EndsWhole i.size old.written new.written old.cuts new.cuts
  -- each byte of them was read back
  pub back : IsTrue source → IsTrue spool → OnOk r (new.given + length old.written ≡ old.given + length new.written)

-- What it leaves on the partition.
pub record LaysBlocks (source spool partition : Bool) (i : ImageBlocks) (limit made : ℕ)
    (r : Result Delivered FlashFault) (old new : PartitionState) : Type 0 where
  -- its length stays, and nothing is read of it
  pub size : new.size ≡ old.size
  pub unread : (new.reads ≡ old.reads) × (new.given ≡ old.given)
  -- the raw and fill blocks after the first pieces are written over what it held, each byte of them written once
  pub laid : IsTrue source → IsTrue spool → IsTrue partition
      → OnOk r (new.content
      ≡ over old.content (cells i.size (blocks_behind (blocks_in_first limit i.size i.blocks made) i.blocks)))
  -- so are those of the pieces up to one whose sync was refused, though a crash may leave less of that one
  pub laid_up_to : IsTrue source → IsTrue spool → IsTrue partition
      → OnUnsyncedPiece r (λ j. new.content ≡ over old.content
      (cells i.size (blocks_up_to (blocks_in_first limit i.size i.blocks made)
      (blocks_in_first limit i.size i.blocks j) i.blocks)))
  pub once : IsTrue source → IsTrue spool → OnOk r (new.taken
      ≡ old.taken + i.size * written_in (blocks_behind (blocks_in_first limit i.size i.blocks made) i.blocks))
  -- each piece that was finished was synced, and every sync has succeeded but one that the result names
  pub synced : new.past.synced ≡ old.past.synced + finished made r
  pub unsynced : new.syncs + old.past.synced ≡ old.syncs + new.past.synced + refused_syncs r
  -- nothing is pending in the end, so a crash leaves exactly what it holds
  pub settled : IsTrue partition → OnOk r (new.past.pending ≡ [])
  pub lasts : IsTrue partition → OnOk r ((q : List ℕ) → MayLeave (moment_of new.past new.content) q → q ≡ new.content)

-- Of a whole delivery, over a partition of which nothing was pending: in every intermediate state of it, and after it,
-- a stop leaves what a delivery mends.
pub record AlwaysMendable (i : ImageBlocks) (limit : ℕ) (old new : PartitionState) : Type 0 where
  pub since : EachSince old.past.moments new.past.moments
      (MendableThen limit i.size i.blocks old.content 0 old.past.synced)
  pub now : MendableThen limit i.size i.blocks old.content 0 old.past.synced (moment_of new.past new.content)

-- What is whole of the image when a call begins after its first pieces, `made`, stays so in every intermediate state,
-- and an Ok mends all else. Pieces after the first ones that are whole already are written again, over whatever is
-- there; the first ones are neither read nor written, so where they are not whole nothing is said of them.
pub record MendsBlocks (i : ImageBlocks) (limit made : ℕ) (r : Result Delivered FlashFault)
    (old new : PartitionState) : Type 0 where
  pub stays : StaysMendable limit i.size i.blocks made old.past new.past old.content new.content
  -- after a stop in piece j, what is stored and whatever a crash may leave of it is mended from j on, or from before it
  pub stopped : OnStop r (λ j. (p : List ℕ) (done : ℕ) → made ≤ done
      → LeavesMendable limit i.size i.blocks p done (moment_of old.past old.content)
      → LeavesMendable limit i.size i.blocks p (j - 1) (moment_of new.past new.content))
  pub mends : OnOk r ((p : List ℕ) (done : ℕ) → made ≤ done
      → Mendable i.size i.blocks p old.content (blocks_in_first limit i.size i.blocks done)
      → new.content ≡ over p (cells i.size i.blocks))

-- ---- what it costs

-- So many pieces were begun, of which the first ones, `made`, were only to be planned. Where planning was refused
-- these are the pieces that were planned, of k that the image has; before that none was.
abbrev pub HasBegun : Bool → ℕ → Result Delivered FlashFault → ℕ → ℕ → Type 0
HasBegun source k (Ok d) made n = n ≡ made + d.pieces
HasBegun source k (Err (Stopped j c)) made n = n ≡ j
HasBegun source k (Err (NoSuchPiece j)) made n = n ≡ j
HasBegun source k (Err (Read d)) made n = (n ≤ made) × (IsTrue source → n ≤ k)
HasBegun source k (Err SourceChanged) made n = n ≤ made
HasBegun source k (Err f) made n = n ≡ 0

-- The calls of all devices, and the turns of loops, are at most 8 for each byte that a device gave or took, and so
-- many for each piece that was begun and once more; of a raw image some words may be compared that were not read. No
-- step receives more than 65,580 bytes.
pub record DeliveryCosts (source : Bool) (i : ImageBlocks) (limit words each made : ℕ) (r : Result Delivered FlashFault)
    (old new : Counts) (m m' : Meter) : Type 0 where
  pub begun : ℕ
  pub counted : HasBegun source (pieces_in limit i) r made begun
  pub calls : all_calls new + 8 * all_bytes old ≤ all_calls old + 8 * all_bytes new + each * (begun + 1)
  pub turns : m'.turns.number + 8 * all_bytes old ≤ m.turns.number + 8 * all_bytes new + 8 * words + each * (begun + 1)
  pub steps : new.given + new.spool_given + 65580 * m.steps.number
      ≤ old.given + old.spool_given + 65580 * m'.steps.number
  pub greatest : m'.greatest.number ≤ max m.greatest.number 65580

-- ---- all of it

-- What delivering an image after its first pieces, `made`, does, whatever it returns.
pub record HasDelivered {A B C : Type 0} (forward : Bool) (i : ImageBlocks) (limit made words each : ℕ)
    (s : sources.Ghosts A) (f : inputs.Ghosts B) (o : outputs.Ghosts B) (l : spools.Ghosts B) (q : sources.Ghosts C)
    (p : partitions.Ghosts C) (r : Result Delivered FlashFault) (a a' : A) (b b' : B) (c c' : C) (m m' : Meter)
    : Type 0 where
  -- what is returned
  pub delivers : Delivers s.models i limit made ((b' ≡ b) × (c' ≡ c)) r (counts s f o l p a b c)
      (counts s f o l p a' b' c')
  -- what it wrote
  pub spool : GivesPieces forward s.models f.models i limit made r (spool_state f o l b) (spool_state f o l b')
  pub partition : LaysBlocks s.models f.models q.models i limit made r (partition_state q p c) (partition_state q p c')
  -- what stays
  pub mends : IsTrue s.models → IsTrue f.models → IsTrue q.models
      → MendsBlocks i limit made r (partition_state q p c) (partition_state q p c')
  pub mendable : IsTrue s.models → IsTrue f.models → IsTrue q.models → made ≡ 0 → (p.past c).pending ≡ []
      → AlwaysMendable i limit (partition_state q p c) (partition_state q p c')
  pub source : OnlyReads r s a a'
  -- what it cost
  pub costs : DeliveryCosts s.models i limit words each made r (counts s f o l p a b c) (counts s f o l p a' b' c') m m'

-- What delivering an opened image does, after its first pieces.
pub record OpenDelivered {R A B C : Type 0} (g : images.Ghosts R) (runs : R) (forward : Bool) (limit made : ℕ)
    (s : sources.Ghosts A) (f : inputs.Ghosts B) (o : outputs.Ghosts B) (l : spools.Ghosts B) (q : sources.Ghosts C)
    (p : partitions.Ghosts C) (r : Result Delivered FlashFault) (a a' : A) (b b' : B) (c c' : C) (m m' : Meter)
    : Type 0 where
  pub granted : OnOk r (Room limit (g.size runs) (g.count runs) (q.size c))
  pub refused : IfErr r (λ e. RefusedDelivery e limit (g.size runs) (g.count runs) (q.size c) made s.models f.models
      (counts s f o l p a b c) (counts s f o l p a' b' c'))
  pub image : HasDelivered forward (record { size = g.size runs; blocks = g.list runs (s.content a) }) limit made
      (g.one runs) 400 s f o l q p r a a' b b' c c' m m'
  pub long : IfOk r (λ d. length (o.written b') ≤ length (o.written b) + g.most_taken runs + 80 * d.pieces)
