-- What a call promises where it is refused before its first piece, and over the same image in other words.
use Rattle.std.proofs.Common.{false, ◌≡◌, ℕ, ◌+◌, ◌-◌, ◌*◌, ◌≤◌, ◌<◌, ◌++◌, Bool, List, [], length, Result, Ok, Err}
use Rattle.std.proofs.Common.{refl, ap, subst, ◌∙◌, arith}
use Rattle.std.specs.Prelude.{IsTrue, IfErr, IfOk, OnOk}
use Rattle.std.specs.List.{concat}
use Rattle.abt_io.specs.Moment.{Past, moment_of}
use Rattle.abt_sparse.specs.Block.{Block, cells, over}
use Rattle.abt_sparse.specs.Mending.{Mendable}
use Rattle.abt_pieces.specs.Contents.{written_in}
use Rattle.abt_pieces.specs.declared.fault.PieceFault.{PieceFault}
use Rattle.abt_pieces.specs.declared.fault.PieceFault.TheVariants as cuts
use Rattle.abt_runs.specs.declared.part.RunFault.{RunFault}
use Rattle.abt_runs.specs.declared.part.RunFault.TheVariants as of_runs
use Rattle.abt_flash.specs.Causes.{opening_fault, planning_fault, run_fault_of}
use Rattle.abt_flash_faults.specs.Fault.{refused_syncs}
use Rattle.abt_flash.specs.Devices.{Counts, PartitionState, SpoolState}
use Rattle.abt_io.specs.declared.meter.Meter.{Meter}
use Rattle.abt_flash.proofs.Ways.{ends_none, no_part_none}
use Rattle.abt_flash.specs.Delivering.{AlwaysMendable, Begins, DeliveryCosts, CountsTo, EndsWhole, GaveNoPart}
use Rattle.abt_flash.specs.Delivering.{GivesPieces, HasBegun, ImageBlocks, IsLeast, LaysBlocks, LeavesMendable}
use Rattle.abt_flash.specs.Delivering.{MendsBlocks, OnEarly, OnStop, OnUnsyncedPiece, RefusedDelivery, Room}
use Rattle.abt_flash.specs.Delivering.{StaysMendable, begun, blocks_behind, blocks_in_first, blocks_up_to, finished}
use Rattle.abt_flash.specs.Delivering.{pieces_behind, pieces_in, with_cuts}
use Rattle.abt_flash.specs.Going.{PlanRefused, StopsIn}
use Rattle.abt_flash.specs.declared.answer.Delivered.{Delivered}
use Rattle.abt_flash_faults.specs.declared.fault.FlashFault.{FlashFault}
use Rattle.abt_flash_faults.specs.declared.fault.FlashFault.TheVariants.{Sparse, Read, Write, TooLarge, SourceChanged}
use Rattle.abt_flash_faults.specs.declared.fault.FlashFault.TheVariants.{BadBlock, LimitTooSmall, PartitionTooSmall}
use Rattle.abt_flash_faults.specs.declared.fault.FlashFault.TheVariants.{Sync, Stopped, NoSuchPiece}
use Rattle.abt_flash.proofs.Spooled.{fits_none}
use Rattle.abt_flash.proofs.Staying.{from_fresh, stays_none}

-- ---- refused before the first piece

-- a refusal that finishes nothing and syncs nothing
abbrev pub IsEarly : FlashFault → Type 0
IsEarly (Stopped j c) = ⊥
IsEarly (Sync d) = ⊥
IsEarly f = Unit {0}

pub opening_early : (f : PieceFault) → IsEarly (opening_fault f)
opening_early (cuts.LimitTooSmall n) = tt
opening_early (cuts.Read d) = tt
opening_early (cuts.Write d) = tt
opening_early cuts.SourceChanged = tt
opening_early cuts.TooLarge = tt
opening_early (cuts.BadBlock n) = tt

pub run_early : (f : RunFault) → IsEarly (run_fault_of f)
run_early (of_runs.Sparse f) = tt
run_early (of_runs.Read d) = tt
run_early of_runs.TooLarge = tt
run_early of_runs.SourceChanged = tt
run_early (of_runs.BadBlock n) = tt

pub plan_early : (e : FlashFault) (before : ℕ) (models : Bool) (r r' : ℕ) → PlanRefused e before models r r' → IsEarly e
plan_early (Read d) before models r r' h = tt
plan_early SourceChanged before models r r' h = tt
plan_early (NoSuchPiece k) before models r r' h = tt
plan_early (Sparse f) before models r r' h = tt
plan_early (Write d) before models r r' h = tt
plan_early TooLarge before models r r' h = tt
plan_early (BadBlock n) before models r r' h = tt
plan_early (LimitTooSmall n) before models r r' h = tt
plan_early (PartitionTooSmall n) before models r r' h = tt
plan_early (Sync d) before models r r' h = absurd h
plan_early (Stopped n c) before models r r' h = absurd h

none_finished : (e : FlashFault) (made : ℕ) → IsEarly e → finished made (Err e) ≡ 0
none_finished (Read d) made h = refl
none_finished SourceChanged made h = refl
none_finished (NoSuchPiece k) made h = refl
none_finished (Sparse f) made h = refl
none_finished (Write d) made h = refl
none_finished TooLarge made h = refl
none_finished (BadBlock n) made h = refl
none_finished (LimitTooSmall n) made h = refl
none_finished (PartitionTooSmall n) made h = refl
none_finished (Sync d) made h = absurd h
none_finished (Stopped n c) made h = absurd h

none_unsynced : (e : FlashFault) → IsEarly e → refused_syncs {X = Delivered} (Err e) ≡ 0
none_unsynced (Read d) h = refl
none_unsynced SourceChanged h = refl
none_unsynced (NoSuchPiece k) h = refl
none_unsynced (Sparse f) h = refl
none_unsynced (Write d) h = refl
none_unsynced TooLarge h = refl
none_unsynced (BadBlock n) h = refl
none_unsynced (LimitTooSmall n) h = refl
none_unsynced (PartitionTooSmall n) h = refl
none_unsynced (Sync d) h = absurd h
none_unsynced (Stopped n c) h = absurd h

none_unsynced_piece : (e : FlashFault) (P : ℕ → Type 0) → IsEarly e → OnUnsyncedPiece (Err e) P
none_unsynced_piece (Read d) P h = tt
none_unsynced_piece SourceChanged P h = tt
none_unsynced_piece (NoSuchPiece k) P h = tt
none_unsynced_piece (Sparse f) P h = tt
none_unsynced_piece (Write d) P h = tt
none_unsynced_piece TooLarge P h = tt
none_unsynced_piece (BadBlock n) P h = tt
none_unsynced_piece (LimitTooSmall n) P h = tt
none_unsynced_piece (PartitionTooSmall n) P h = tt
none_unsynced_piece (Sync d) P h = absurd h
none_unsynced_piece (Stopped n c) P h = absurd h

-- no piece was begun where an image or its cutter was not opened
pub opening_begins : (source : Bool) (k made : ℕ) (f : PieceFault) → HasBegun source k (Err (opening_fault f)) made 0
opening_begins source k made (cuts.LimitTooSmall n) = refl
opening_begins source k made (cuts.Read d) = (omega arith, λ t. omega arith)
opening_begins source k made (cuts.Write d) = refl
opening_begins source k made cuts.SourceChanged = omega arith
opening_begins source k made cuts.TooLarge = refl
opening_begins source k made (cuts.BadBlock n) = refl

pub run_begins : (source : Bool) (k made : ℕ) (f : RunFault) → HasBegun source k (Err (run_fault_of f)) made 0
run_begins source k made (of_runs.Sparse f) = refl
run_begins source k made (of_runs.Read d) = (omega arith, λ t. omega arith)
run_begins source k made of_runs.TooLarge = refl
run_begins source k made of_runs.SourceChanged = omega arith
run_begins source k made (of_runs.BadBlock n) = refl

pub plan_begins : (f : PieceFault) (source : Bool) (k made n : ℕ) → n ≤ made → (IsTrue source → n ≤ k)
    → HasBegun source k (Err (planning_fault f)) made n
plan_begins (cuts.Read d) source k made n le few = (le, few)
plan_begins (cuts.Write d) source k made n le few = le
plan_begins cuts.SourceChanged source k made n le few = le
plan_begins cuts.TooLarge source k made n le few = le
plan_begins (cuts.BadBlock m) source k made n le few = le
plan_begins (cuts.LimitTooSmall m) source k made n le few = le

pub gives_none : (forward source spool : Bool) (i : ImageBlocks) (limit made : ℕ) (e : FlashFault) (s : SpoolState)
    → GivesPieces forward source spool i limit made (Err e) s s
gives_none forward source spool i limit made e s = record {
  room = refl;
  fits = fits_none limit s.cuts (length s.written);
  written = λ t. tt;
  cuts = λ t. tt;
  begins = λ f t. record { more = concat (pieces_behind limit i.size i.blocks made); joined = refl };
  no_part = λ f t. no_part_none s.written s.written s.cuts _ refl;
  ends = λ f. ends_none _ _ _ _ _ refl refl;
  back = λ t u. tt;
}

pub lays_none : (source spool partition : Bool) (i : ImageBlocks) (limit made : ℕ) (e : FlashFault)
    (s : PartitionState) → IsEarly e → LaysBlocks source spool partition i limit made (Err e) s s
lays_none source spool partition i limit made e s early = record {
  size = refl;
  unread = (refl, refl);
  laid = λ t u v. tt;
  laid_up_to = λ t u v. none_unsynced_piece e _ early;
  once = λ t u. tt;
  synced = let z = none_finished e made early in omega (arith, z);
  unsynced = let z = none_unsynced e early in omega (arith, z);
  settled = λ v. tt;
  lasts = λ v. tt;
}

none_stopped : (e : FlashFault) (P : ℕ → Type 0) → IsEarly e → OnStop (Err e) P
none_stopped (Read d) P h = tt
none_stopped SourceChanged P h = tt
none_stopped (NoSuchPiece k) P h = tt
none_stopped (Sparse f) P h = tt
none_stopped (Write d) P h = tt
none_stopped TooLarge P h = tt
none_stopped (BadBlock n) P h = tt
none_stopped (LimitTooSmall n) P h = tt
none_stopped (PartitionTooSmall n) P h = tt
none_stopped (Sync d) P h = absurd h
none_stopped (Stopped n c) P h = absurd h

pub mends_none : (i : ImageBlocks) (limit made : ℕ) (e : FlashFault) (s : PartitionState) → IsEarly e
    → MendsBlocks i limit made (Err e) s s
mends_none i limit made e s early = record {
  stays = stays_none limit i.size i.blocks made s.past s.content;
  stopped = none_stopped e _ early;
  mends = tt;
}

pub mendable_none : (i : ImageBlocks) (limit : ℕ) (s : PartitionState) → s.past.pending ≡ []
    → AlwaysMendable i limit s s
mendable_none i limit s none = from_fresh i limit s s none (stays_none limit i.size i.blocks 0 s.past s.content)

-- an image that has room is refused as planning was
pub plan_refuses : (e : FlashFault) (limit b n size made : ℕ) (source spool : Bool) (a z : Counts)
    → Room limit b n size → PlanRefused e made source a.read_faults z.read_faults
    → RefusedDelivery e limit b n size made source spool a z
plan_refuses (Read d) limit b n size made source spool a z room h = (room, h.0, h.1)
plan_refuses SourceChanged limit b n size made source spool a z room h = (room, h)
plan_refuses (NoSuchPiece k) limit b n size made source spool a z room h = (room, h.0, h.1)
plan_refuses (Sparse f) limit b n size made source spool a z room h = absurd h
plan_refuses (Write d) limit b n size made source spool a z room h = absurd h
plan_refuses TooLarge limit b n size made source spool a z room h = absurd h
plan_refuses (BadBlock k) limit b n size made source spool a z room h = absurd h
plan_refuses (LimitTooSmall k) limit b n size made source spool a z room h = absurd h
plan_refuses (PartitionTooSmall k) limit b n size made source spool a z room h = absurd h
plan_refuses (Sync d) limit b n size made source spool a z room h = absurd h
plan_refuses (Stopped k c) limit b n size made source spool a z room h = absurd h

-- and where its cutter was not opened, for its limit
pub opening_refuses : (f : PieceFault) (limit b n size made : ℕ) (source spool : Bool) (a z : Counts)
    → f ≡ cuts.LimitTooSmall (64 + b) → limit < 64 + b
    → RefusedDelivery (opening_fault f) limit b n size made source spool a z
opening_refuses f limit b n size made source spool a z is small = rw is (refl, small)

pub opening_counts : (f : PieceFault) (made k : ℕ) → CountsTo (Err (opening_fault f)) made k
opening_counts (cuts.LimitTooSmall n) made k = tt
opening_counts (cuts.Read d) made k = tt
opening_counts (cuts.Write d) made k = tt
opening_counts cuts.SourceChanged made k = tt
opening_counts cuts.TooLarge made k = tt
opening_counts (cuts.BadBlock n) made k = tt

pub run_counts : (f : RunFault) (made k : ℕ) → CountsTo (Err (run_fault_of f)) made k
run_counts (of_runs.Sparse f) made k = tt
run_counts (of_runs.Read d) made k = tt
run_counts of_runs.TooLarge made k = tt
run_counts of_runs.SourceChanged made k = tt
run_counts (of_runs.BadBlock n) made k = tt

-- what holds at any refusal holds at an early one
pub early_holds : (e : FlashFault) (P : Type 0) → P → OnEarly (Err e) P
early_holds (Stopped j c) P h = tt
early_holds (Read d) P h = h
early_holds SourceChanged P h = h
early_holds (NoSuchPiece k) P h = h
early_holds (Sparse f) P h = h
early_holds (Write d) P h = h
early_holds TooLarge P h = h
early_holds (BadBlock n) P h = h
early_holds (LimitTooSmall n) P h = h
early_holds (PartitionTooSmall n) P h = h
early_holds (Sync d) P h = h

-- ---- all pieces after the first ones

-- a stop is not early
pub rest_early : (made : ℕ) (r : Result Delivered FlashFault) (l s : Bool) (a z : Counts) (P : Type 0)
    → IfErr r (λ e. StopsIn e made l s a z) → OnEarly r P
rest_early made (Ok d) l s a z P h = tt
rest_early made (Err (Stopped j c)) l s a z P h = tt
rest_early made (Err (NoSuchPiece j)) l s a z P h = absurd h
rest_early made (Err (Read d)) l s a z P h = absurd h
rest_early made (Err SourceChanged) l s a z P h = absurd h
rest_early made (Err (Sparse f)) l s a z P h = absurd h
rest_early made (Err (Write d)) l s a z P h = absurd h
rest_early made (Err TooLarge) l s a z P h = absurd h
rest_early made (Err (BadBlock n)) l s a z P h = absurd h
rest_early made (Err (LimitTooSmall n)) l s a z P h = absurd h
rest_early made (Err (PartitionTooSmall n)) l s a z P h = absurd h
rest_early made (Err (Sync d)) l s a z P h = absurd h

-- A stop leaves what is mended from its piece on: each piece before it was synced.
pub stop_mends : (limit b : ℕ) (l : List Block) (made : ℕ) (r : Result Delivered FlashFault) (source spool : Bool)
    (a z : Counts) (old new : Past) (before after : List ℕ)
    → IfErr r (λ e. StopsIn e made source spool a z) → new.synced ≡ old.synced + finished made r
    → StaysMendable limit b l made old new before after
    → OnStop r (λ j. (p : List ℕ) (done : ℕ) → made ≤ done → LeavesMendable limit b l p done (moment_of old before)
    → LeavesMendable limit b l p (j - 1) (moment_of new after))
stop_mends limit b l made (Ok d) source spool a z old new before after h synced stays = tt
stop_mends limit b l made (Err (Stopped j c)) source spool a z old new before after h synced stays =
    λ p done le leaves q may.
    let order : made < j = h.0 in
    let count : made + (new.synced - old.synced) ≡ j - 1 = omega (arith, synced, order) in
    let then : Mendable b l p q (blocks_in_first limit b l (made + (new.synced - old.synced))) =
    stays.now p done le leaves q may in
    rw count at then
stop_mends limit b l made (Err (Read d)) source spool a z old new before after h synced stays = tt
stop_mends limit b l made (Err SourceChanged) source spool a z old new before after h synced stays = tt
stop_mends limit b l made (Err (NoSuchPiece k)) source spool a z old new before after h synced stays = tt
stop_mends limit b l made (Err (Sparse f)) source spool a z old new before after h synced stays = tt
stop_mends limit b l made (Err (Write d)) source spool a z old new before after h synced stays = tt
stop_mends limit b l made (Err TooLarge) source spool a z old new before after h synced stays = tt
stop_mends limit b l made (Err (BadBlock n)) source spool a z old new before after h synced stays = tt
stop_mends limit b l made (Err (LimitTooSmall n)) source spool a z old new before after h synced stays = tt
stop_mends limit b l made (Err (PartitionTooSmall n)) source spool a z old new before after h synced stays = tt
stop_mends limit b l made (Err (Sync d)) source spool a z old new before after h synced stays = tt

pub rest_begins : (source : Bool) (k made : ℕ) (r : Result Delivered FlashFault) (l s : Bool) (a z : Counts)
    → IfErr r (λ e. StopsIn e made l s a z) → HasBegun source k r made (begun made r)
rest_begins source k made (Ok d) l s a z h = refl
rest_begins source k made (Err (Stopped j c)) l s a z h = refl
rest_begins source k made (Err (NoSuchPiece j)) l s a z h = refl
rest_begins source k made (Err (Read d)) l s a z h = absurd h
rest_begins source k made (Err SourceChanged) l s a z h = absurd h
rest_begins source k made (Err (Sparse f)) l s a z h = absurd h
rest_begins source k made (Err (Write d)) l s a z h = absurd h
rest_begins source k made (Err TooLarge) l s a z h = absurd h
rest_begins source k made (Err (BadBlock n)) l s a z h = absurd h
rest_begins source k made (Err (LimitTooSmall n)) l s a z h = absurd h
rest_begins source k made (Err (PartitionTooSmall n)) l s a z h = absurd h
rest_begins source k made (Err (Sync d)) l s a z h = absurd h

pub rest_more : (made : ℕ) (r : Result Delivered FlashFault) (l s : Bool) (a z : Counts)
    → IfErr r (λ e. StopsIn e made l s a z) → made ≤ begun made r
rest_more made (Ok d) l s a z h = omega arith
rest_more made (Err (Stopped j c)) l s a z h = let x = h.0 in omega (arith, x)
rest_more made (Err (NoSuchPiece j)) l s a z h = absurd h
rest_more made (Err (Read d)) l s a z h = absurd h
rest_more made (Err SourceChanged) l s a z h = absurd h
rest_more made (Err (Sparse f)) l s a z h = absurd h
rest_more made (Err (Write d)) l s a z h = absurd h
rest_more made (Err TooLarge) l s a z h = absurd h
rest_more made (Err (BadBlock n)) l s a z h = absurd h
rest_more made (Err (LimitTooSmall n)) l s a z h = absurd h
rest_more made (Err (PartitionTooSmall n)) l s a z h = absurd h
rest_more made (Err (Sync d)) l s a z h = absurd h

-- the public calls promise less than the private one
pub costs_more : (source : Bool) (i : ImageBlocks) (limit words made : ℕ) (r : Result Delivered FlashFault)
    (a z : Counts) (m m' : Meter) → DeliveryCosts source i limit words 400 made r a z m m'
    → DeliveryCosts source i limit words 512 made r a z m m'
costs_more source i limit words made r a z m m' h =
    let calls = h.calls in
    let turns = h.turns in
    record {
      begun = h.begun;
      counted = h.counted;
      calls = omega (arith, calls);
      turns = omega (arith, turns);
      steps = h.steps;
      greatest = h.greatest;
    }

-- ---- the same image in other words

pub counts_same : (r : Result Delivered FlashFault) (limit made : ℕ) (i j : ImageBlocks) → i ≡ j
    → CountsTo r made (pieces_in limit i) → CountsTo r made (pieces_in limit j)
counts_same r limit made i j e h = let P : ImageBlocks → Type 0 = λ n. CountsTo r made (pieces_in limit n) in
    subst P e h

pub least_same : (r : Result Delivered FlashFault) (limit made : ℕ) (i j : ImageBlocks) → i ≡ j
    → IfOk r (λ d. IsLeast limit (made + d.pieces) i) → IfOk r (λ d. IsLeast limit (made + d.pieces) j)
least_same r limit made i j e h = let P : ImageBlocks → Type 0 =
    λ n. IfOk r (λ d. IsLeast limit (made + d.pieces) n) in subst P e h

pub begins_same : (source : Bool) (k l made n : ℕ) (r : Result Delivered FlashFault) → (IsTrue source → k ≡ l)
    → HasBegun source k r made n → HasBegun source l r made n
begins_same source k l made n (Ok d) e h = h
begins_same source k l made n (Err (Stopped j c)) e h = h
begins_same source k l made n (Err (NoSuchPiece j)) e h = h
begins_same source k l made n (Err (Read d)) e h = (h.0, λ t. let x = h.1 t in let y = e t in omega (arith, x, y))
begins_same source k l made n (Err SourceChanged) e h = h
begins_same source k l made n (Err (Sparse f)) e h = h
begins_same source k l made n (Err (Write d)) e h = h
begins_same source k l made n (Err TooLarge) e h = h
begins_same source k l made n (Err (BadBlock m)) e h = h
begins_same source k l made n (Err (LimitTooSmall m)) e h = h
begins_same source k l made n (Err (PartitionTooSmall m)) e h = h
begins_same source k l made n (Err (Sync d)) e h = h

pub gives_same : (forward source spool : Bool) (i j : ImageBlocks) (limit made : ℕ) (r : Result Delivered FlashFault)
    (s z : SpoolState) → (IsTrue source → i ≡ j) → (forward ≡ false → i.size ≡ j.size)
    → GivesPieces forward source spool i limit made r s z → GivesPieces forward source spool j limit made r s z
gives_same forward source spool i j limit made r s z e size h = record {
  room = h.room;
  fits = h.fits;
  written = λ t. let P : ImageBlocks → Type 0 =
      λ n. OnOk r (z.written ≡ s.written ++ concat (pieces_behind limit n.size n.blocks made)) in
      subst P (e t) (h.written t);
  cuts = λ t. let P : ImageBlocks → Type 0 =
      λ n. OnOk r (z.cuts ≡ with_cuts s.cuts (length s.written) (pieces_behind limit n.size n.blocks made)) in
      subst P (e t) (h.cuts t);
  begins = λ f t. let P : ImageBlocks → Type 0 =
      λ n. Begins z.written (s.written ++ concat (pieces_behind limit n.size n.blocks made)) in
      subst P (e t) (h.begins f t);
  no_part = λ f t. let P : ImageBlocks → Type 0 =
      λ n. GaveNoPart s.written z.written z.cuts (pieces_behind limit n.size n.blocks made) in
      subst P (e t) (h.no_part f t);
  ends = λ f. subst (λ (b : ℕ). EndsWhole b s.written z.written s.cuts z.cuts) (size f) (h.ends f);
  back = h.back;
}

pub lays_same : (source spool partition : Bool) (i j : ImageBlocks) (limit made : ℕ) (r : Result Delivered FlashFault)
    (s z : PartitionState) → (IsTrue source → i ≡ j) → LaysBlocks source spool partition i limit made r s z
    → LaysBlocks source spool partition j limit made r s z
lays_same source spool partition i j limit made r s z e h = record {
  size = h.size;
  unread = h.unread;
  laid = λ t u v. let P : ImageBlocks → Type 0 =
      λ n. OnOk r (z.content ≡ over s.content
      (cells n.size (blocks_behind (blocks_in_first limit n.size n.blocks made) n.blocks))) in
      subst P (e t) (h.laid t u v);
  laid_up_to = λ t u v. let P : ImageBlocks → Type 0 =
      λ n. OnUnsyncedPiece r
      (λ k. z.content ≡ over s.content
      (cells n.size (blocks_up_to (blocks_in_first limit n.size n.blocks made)
      (blocks_in_first limit n.size n.blocks k) n.blocks))) in subst P (e t) (h.laid_up_to t u v);
  once = λ t u. let P : ImageBlocks → Type 0 =
      λ n. OnOk r (z.taken ≡ s.taken + n.size * written_in
      (blocks_behind (blocks_in_first limit n.size n.blocks made) n.blocks)) in subst P (e t) (h.once t u);
  synced = h.synced;
  unsynced = h.unsynced;
  settled = h.settled;
  lasts = h.lasts;
}

pub mends_same : (i j : ImageBlocks) (limit made : ℕ) (r : Result Delivered FlashFault) (s z : PartitionState) → i ≡ j
    → MendsBlocks i limit made r s z → MendsBlocks j limit made r s z
mends_same i j limit made r s z e h = let P : ImageBlocks → Type 0 = λ n. MendsBlocks n limit made r s z in subst P e h

pub mendable_same : (i j : ImageBlocks) (limit : ℕ) (s z : PartitionState) → i ≡ j → AlwaysMendable i limit s z
    → AlwaysMendable j limit s z
mendable_same i j limit s z e h = let P : ImageBlocks → Type 0 = λ n. AlwaysMendable n limit s z in subst P e h

pub image_same : (b c : ℕ) (l m : List Block) → b ≡ c → l ≡ m
    → (let i : ImageBlocks = record { size = b; blocks = l } in
    let j : ImageBlocks = record { size = c; blocks = m } in i ≡ j)
image_same b c l m e f = ap (λ (n : ℕ). let i : ImageBlocks = record { size = n; blocks = l } in i) e
    ∙ ap (λ (k : List Block). let i : ImageBlocks = record { size = c; blocks = k } in i) f
