-- What the engine says of a delivery, in the words of the command; and what a file that was not closed adds to it.
use Rattle.std.proofs.Common.{◌≡◌, ◌<◌, ◌+◌, ℕ, List, [], Bool, true, length, Option, Some, None, refl}
use Rattle.std.proofs.Common.{sym, ◌∙◌, ap, subst, arith, inl}
use Rattle.std.specs.Prelude.{Result, Ok, Err, OnOk, IfErr, unwrap_or, slice_index}
use Rattle.abt_io.specs.declared.device.DeviceFault.{DeviceFault}
use Rattle.std.proofs.lemmas.Bool.{true≢false}
use Rattle.abt_io.specs.Moment.{Past, moment_of}
use Rattle.abt_sparse.specs.Block.{Block, cells, over}
use Rattle.abt_sparse.specs.Mending.{Mendable}
use Rattle.abt_sparse.proofs.Lay.{length-over, get_or-over}
use Rattle.abt_flash.specs.declared.answer.Delivered.{Delivered}
use Rattle.abt_flash_faults.specs.declared.fault.Cause.{Cause}
use Rattle.abt_flash_faults.specs.declared.fault.Cause.TheVariants as causes
use Rattle.abt_flash_faults.specs.declared.fault.FlashFault.{FlashFault}
use Rattle.abt_flash_faults.specs.declared.fault.FlashFault.TheVariants as flashes
use Rattle.abt_flash.specs.Delivering.{CountsTo, LaysBlocks, LeavesMendable, MendsBlocks, OnEarly, StopsFor}
use Rattle.abt_flash.specs.Delivering.{blocks_in_first, pieces_in}
use Rattle.abt_flash.specs.Devices.{Counts, PartitionState}
use Rattle.abt_flash.specs.Raw.{IsAllowed, RawRefused, raw_image}
use Rattle.abt_flash.specs.Sparse.{Fits, SparseRefused, sparse_image}
use Rattle.abt_flash.proofs.Mended.{leaves_same}
use Rattle.sys_disk.specs.Counts as runs
use Rattle.cmd_flash.specs.Files.{DeviceFailed}
use Rattle.cmd_flash.specs.InPieces.{DeliversPieces, IsEarly, IsRefused, IsUndelivered, IsWhole, StoppedBy, image_as}

-- ---- what is stored

-- p overwritten by the whole image holds it up to any piece
pub stands_whole : (b : ℕ) (l : List Block) (p : List ℕ) (first : ℕ) → Mendable b l p (over p (cells b l)) first
stands_whole b l p first = record {
  long = length-over p (cells b l);
  outside = λ i lt none. get_or-over p (cells b l) i lt ∙ ap (λ (c : Option ℕ). unwrap_or c (slice_index p i)) none;
  before = λ i lt near. refl;
}

-- nothing is pending: a crash leaves what is there
leaves_now : (limit b : ℕ) (l : List Block) (p : List ℕ) (done : ℕ) (past : Past) (content : List ℕ) → past.pending ≡ []
    → Mendable b l p content (blocks_in_first limit b l done) → LeavesMendable limit b l p done (moment_of past content)
leaves_now limit b l p done past content none stands = λ q may.
    subst (λ (z : List ℕ). Mendable b l p z (blocks_in_first limit b l done))
    (sym (leaves_same (moment_of past content) q none may)) stands

-- ---- what the engine returns

abbrev pub faults_in : Counts → ℕ
faults_in c = c.read_faults + c.put_faults + (c.write_faults + c.spool_faults)

abbrev pub RoseIn : Counts → Counts → runs.Cause → Type 0
RoseIn a z cause = faults_in a ≡ 0 → DeviceFailed (a.read_faults + a.spool_faults) (z.read_faults + z.spool_faults)
    (a.put_faults + a.write_faults) (z.put_faults + z.write_faults) cause

-- a device has failed that had not
rose : (c : Cause) (a z : Counts) → StopsFor c true true a z → StoppedBy (RoseIn a z) c
rose (causes.Read d) a z stops = λ none. let more = stops.0 in omega (arith, more, none)
rose (causes.Write d) a z stops = λ none. let more = stops.0 in omega (arith, more, none)
rose (causes.Sync d) a z stops = λ none. let more = stops.0 in omega (arith, more, none)
rose (causes.SpoolWrite d) a z stops = inl (λ none. let more = stops.0 in omega (arith, more, none))
rose (causes.SpoolRead d) a z stops = λ none. let more = stops.0 in omega (arith, more, none)
rose causes.SourceChanged a z stops = absurd (true≢false stops)
rose causes.SpoolChanged a z stops = absurd (stops refl)

-- of a stop: the image is whole, and which piece and why
whole_then : (raw : Option ℕ) (j : ℕ) (c : Cause) (x : List ℕ) (limit room before : ℕ) (a z : Counts)
    → IsRefused raw (flashes.Stopped j c) x limit room before a z
    → IsWhole raw x limit room × (before < j) × StopsFor c true true a z
whole_then None j c x limit room before a z refused = (refused.2 refl, refused.0, refused.1)
whole_then (Some size) j c x limit room before a z refused = (refused.0, refused.1, refused.2)

read_rose : (raw : Option ℕ) (d : DeviceFault) (x : List ℕ) (limit room before : ℕ) (a z : Counts)
    → IsRefused raw (flashes.Read d) x limit room before a z → RoseIn a z runs.reading
read_rose None d x limit room before a z refused = λ none. let more = refused.0 in omega (arith, more, none)
read_rose (Some size) d x limit room before a z refused = λ none. let more = refused.1 in omega (arith, more, none)

-- what the engine's clauses say of a delivery over p, of which nothing was pending
pub record Answered (raw : Option ℕ) (limit before : ℕ) (r : Result Delivered FlashFault) (x : List ℕ)
    (old new : PartitionState) (a z : Counts) : Type 0 where
  pub granted : OnOk r (IsWhole raw x limit (length old.content))
  pub refused : IfErr r (λ fault. IsRefused raw fault x limit (length old.content) before a z)
  pub early : OnEarly r (new.content ≡ old.content)
  pub counted : CountsTo r before (pieces_in limit (image_as raw x))
  pub lays : LaysBlocks true true true (image_as raw x) limit before r old new
  pub mends : MendsBlocks (image_as raw x) limit before r old new

early_of : (raw : Option ℕ) (limit before : ℕ) (fault : FlashFault) (x : List ℕ) (old new : PartitionState) (a z :
    Counts)
    → IsRefused raw fault x limit (length old.content) before a z → new.content ≡ old.content
    → IsEarly raw fault limit before x old.content new.content
early_of raw limit before fault x old new a z refused kept =
    record { counts = a; counts' = z; refused = refused; kept = kept }

undelivered : (raw : Option ℕ) (limit before : ℕ) (fault : FlashFault) (x : List ℕ) (old new : PartitionState) (a z :
    Counts)
    → old.past.pending ≡ [] → Answered raw limit before (Err fault) x old new a z
    → IsUndelivered (RoseIn a z) raw fault limit before x old.content new.content
undelivered raw limit before (flashes.Stopped j c) x old new a z none o =
    let whole = whole_then raw j c x limit (length old.content) before a z o.refused in
    let b = (image_as raw x).size in
    let l = (image_as raw x).blocks in
    record {
      whole = whole.0;
      cause = rose c a z whole.2;
      behind = whole.1;
      few = o.counted;
      stands = λ q done le stands. o.mends.stopped q done le
          (leaves_now limit b l q done old.past old.content none stands) new.content
          (record { size = refl; kept = λ i free. refl });
    }
undelivered raw limit before (flashes.Read d) x old new a z none o =
    (read_rose raw d x limit (length old.content) before a z o.refused, o.early)
undelivered raw limit before (flashes.Sparse f) x old new a z none o =
    early_of raw limit before (flashes.Sparse f) x old new a z o.refused o.early
undelivered raw limit before (flashes.Write d) x old new a z none o =
    early_of raw limit before (flashes.Write d) x old new a z o.refused o.early
undelivered raw limit before flashes.TooLarge x old new a z none o =
    early_of raw limit before flashes.TooLarge x old new a z o.refused o.early
undelivered raw limit before flashes.SourceChanged x old new a z none o =
    early_of raw limit before flashes.SourceChanged x old new a z o.refused o.early
undelivered raw limit before (flashes.BadBlock n) x old new a z none o =
    early_of raw limit before (flashes.BadBlock n) x old new a z o.refused o.early
undelivered raw limit before (flashes.LimitTooSmall n) x old new a z none o =
    early_of raw limit before (flashes.LimitTooSmall n) x old new a z o.refused o.early
undelivered raw limit before (flashes.PartitionTooSmall n) x old new a z none o =
    early_of raw limit before (flashes.PartitionTooSmall n) x old new a z o.refused o.early
undelivered raw limit before (flashes.Sync d) x old new a z none o =
    early_of raw limit before (flashes.Sync d) x old new a z o.refused o.early
undelivered raw limit before (flashes.NoSuchPiece k) x old new a z none o =
    early_of raw limit before (flashes.NoSuchPiece k) x old new a z o.refused o.early

pub delivers : (raw : Option ℕ) (limit before : ℕ) (r : Result Delivered FlashFault) (x : List ℕ) (old new :
    PartitionState)
    (a z : Counts) → old.past.pending ≡ [] → Answered raw limit before r x old new a z
    → DeliversPieces (RoseIn a z) raw r limit before x old.content new.content
delivers raw limit before (Ok d) x old new a z none o = record {
  whole = o.granted;
  counts = o.counted;
  holds = o.lays.laid refl refl refl;
  mends = o.mends.mends;
}
delivers raw limit before (Err fault) x old new a z none o = undelivered raw limit before fault x old new a z none o

-- ---- the engine's clauses, for devices that model their bytes

early_for : (r : Result Delivered FlashFault) (P Q : Type 0) → (P → Q) → OnEarly r P → OnEarly r Q
early_for (Ok d) P Q go early = tt
early_for (Err (flashes.Stopped j c)) P Q go early = tt
early_for (Err (flashes.Sparse f)) P Q go early = go early
early_for (Err (flashes.Read d)) P Q go early = go early
early_for (Err (flashes.Write d)) P Q go early = go early
early_for (Err flashes.TooLarge) P Q go early = go early
early_for (Err flashes.SourceChanged) P Q go early = go early
early_for (Err (flashes.BadBlock n)) P Q go early = go early
early_for (Err (flashes.LimitTooSmall n)) P Q go early = go early
early_for (Err (flashes.PartitionTooSmall n)) P Q go early = go early
early_for (Err (flashes.Sync d)) P Q go early = go early
early_for (Err (flashes.NoSuchPiece k)) P Q go early = go early

pub answered_sparse : (limit before size : ℕ) (r : Result Delivered FlashFault) (x : List ℕ) (s l p : Bool)
    (old new : PartitionState) (a z : Counts) (Q : Type 0) → s ≡ true → l ≡ true → p ≡ true → size ≡ length old.content
    → (Q → new.content ≡ old.content) → OnOk r (Fits x limit size)
    → IfErr r (λ e. SparseRefused e x limit size before s l a z) → OnEarly r Q
    → CountsTo r before (pieces_in limit (sparse_image x)) → LaysBlocks s l p (sparse_image x) limit before r old new
    → MendsBlocks (sparse_image x) limit before r old new → Answered None limit before r x old new a z
answered_sparse limit before size r x s l p old new a z Q st lt pt long kept granted refused early counted lays mends =
    record {
      granted = rw long at granted;
      refused = rw (st, lt, long) at refused;
      early = early_for r Q (new.content ≡ old.content) kept early;
      counted = counted;
      lays = rw (st, lt, pt) at lays;
      mends = mends;
    }

pub answered_raw : (b limit before size long : ℕ) (r : Result Delivered FlashFault) (x : List ℕ) (s l p : Bool)
    (old new : PartitionState) (a z : Counts) (Q : Type 0) → s ≡ true → l ≡ true → p ≡ true → size ≡ length old.content
    → long ≡ length x → (Q → new.content ≡ old.content) → OnOk r (IsAllowed b x long limit size s)
    → IfErr r (λ e. RawRefused e b x long limit size before s l a z) → OnEarly r Q
    → CountsTo r before (pieces_in limit (raw_image b x)) → LaysBlocks s l p (raw_image b x) limit before r old new
    → MendsBlocks (raw_image b x) limit before r old new → Answered (Some b) limit before r x old new a z
answered_raw b limit before size long r x s l p old new a z Q st lt pt fits all kept granted refused early counted lays
    mends = record {
      granted = rw (st, fits, all) at granted;
      refused = rw (st, lt, fits, all) at refused;
      early = early_for r Q (new.content ≡ old.content) kept early;
      counted = counted;
      lays = rw (st, lt, pt) at lays;
      mends = mends;
    }
