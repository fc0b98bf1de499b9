-- The contract of one piece of a delivery, and of all pieces that are left.
use Rattle.std.specs.Prelude.{◌≡◌, ℕ, ◌+◌, ◌*◌, ◌≤◌, ◌<◌, List, [], ◌∷◌, ◌++◌, length, max, Bool, false, IsTrue, Result}
use Rattle.std.specs.Prelude.{OnOk, IfErr, drop, is_ok, if◌then◌else◌}
use Rattle.abt_io.specs.declared.meter.Meter.{Meter}
use Rattle.abt_sparse.specs.Block.{Block, cells, over}
use Rattle.abt_runs.specs.declared.part.Cursor.{Cursor}
use Rattle.abt_pieces.specs.Contents.{written_in}
use Rattle.abt_pieces.specs.declared.stage.CutterStage.{CutterStage}
use Rattle.abt_pieces.specs.declared.stage.CutterStage.TheVariants.{Between}
use Rattle.abt_flash.specs.Delivering.{Begins, EndsWhole, GaveNoPart, NoneFailed, OnFlashed, OnUnsyncedPiece, PiecesFit}
use Rattle.abt_flash.specs.Delivering.{StopsFor, begun, blocks_behind, blocks_in_first, blocks_up_to, finished}
use Rattle.abt_flash.specs.Delivering.{unsynced_by}
use Rattle.abt_flash.specs.Devices.{Counts, NoFaultFalls, PartitionState, SpoolState, Work, all_bytes, all_calls}
use Rattle.abt_flash_faults.specs.Fault.{refused_syncs}
use Rattle.abt_flash.specs.Flashing.{TouchesOnly}
use Rattle.abt_flash.specs.Going.{StopsIn}
use Rattle.abt_flash.specs.declared.answer.Delivered.{Delivered}
use Rattle.abt_flash_faults.specs.declared.fault.Cause.{Cause}
use Rattle.abt_flash_faults.specs.declared.fault.FlashFault.{FlashFault}

-- ---- one piece

-- The spool is given this piece after a clear, or a beginning of it, or what is no image.
pub record GivesPiece (forward source spool : Bool) (b limit : ℕ) (piece : List ℕ) (r : Result (Unit {0}) Cause)
    (old new : SpoolState) : Type 0 where
  pub capacity : new.size ≡ old.size
  pub fits : PiecesFit limit old.cuts new.cuts (length old.written) (length new.written)
  pub cut : OnOk r (new.cuts ≡ length old.written ∷ old.cuts)
  pub written : IsTrue source → OnOk r (new.written ≡ old.written ++ piece)
  pub begins : IsTrue forward → IsTrue source → Begins new.written (old.written ++ piece)
  pub no_part : forward ≡ false → IsTrue source → GaveNoPart old.written new.written new.cuts (piece ∷ [])
  pub ends : forward ≡ false → EndsWhole b old.written new.written old.cuts new.cuts
  pub back : IsTrue source → IsTrue spool → OnOk r (new.given + length old.written ≡ old.given + length new.written)

-- The partition gets the blocks `wrote` of it, and nothing is touched but what the blocks `next` write.
pub record LaysPiece (source spool partition : Bool) (b : ℕ) (wrote next : List Block) (r : Result (Unit {0}) Cause)
    (old new : PartitionState) : Type 0 where
  pub size : new.size ≡ old.size
  pub unread : (new.reads ≡ old.reads) × (new.given ≡ old.given)
  pub laid : IsTrue source → IsTrue spool → IsTrue partition
      → OnFlashed r (new.content ≡ over old.content (cells b wrote))
  pub touches : IsTrue source → IsTrue spool → IsTrue partition
      → TouchesOnly (cells b next) old.past new.past old.content new.content
  pub settled : IsTrue partition → OnOk r (new.past.pending ≡ [])
  pub synced : new.past.synced ≡ old.past.synced + (if is_ok r then 1 else 0)
  pub unsynced : new.syncs + old.past.synced ≡ old.syncs + new.past.synced + unsynced_by r
  pub blocks : IsTrue source → IsTrue spool → OnOk r (new.taken ≡ old.taken + b * written_in wrote)

-- what the spool takes for it, and what is read of the source, also where it is the last of n blocks
pub record PieceTakes (source : Bool) (taken before : Cursor → ℕ) (n each last : ℕ) (start start' : Cursor)
    (r : Result (Unit {0}) Cause) (old new : Counts) : Type 0 where
  pub takes : OnOk r (new.spool_written + taken start ≤ old.spool_written + taken start' + 80)
  pub spent : IsTrue source → OnOk r (new.given + before start ≤ old.given + before start' + each)
  pub spent_end : IsTrue source
      → OnOk r (n ≤ start'.block → new.given + before start ≤ old.given + before start' + last)

-- what that costs; at most `words` words of an Ok may be compared without being read
pub record PieceWork (one words : ℕ) (r : Result (Unit {0}) Cause) (old new : Counts) (m m' : Meter) : Type 0 where
  pub calls : all_calls new + 8 * all_bytes old ≤ all_calls old + 8 * all_bytes new + 373
  pub turns : m'.turns.number + 8 * all_bytes old ≤ m.turns.number + 8 * all_bytes new + 364 + 3 * one
  pub words_most : OnOk r (m'.turns.number + 8 * all_bytes old ≤ m.turns.number + 8 * all_bytes new + 364 + words)
  pub work : Work old new m m'

-- who failed, and that nobody did
pub record PieceFails (source spool : Bool) (r : Result (Unit {0}) Cause) (old new : Counts) : Type 0 where
  pub faults : NoFaultFalls old new
  pub cause : IfErr r (λ e. StopsFor e source spool old new)
  pub clean : OnOk r (NoneFailed old new)

-- ---- all that are left

-- so many pieces were made, up to block e of n, and one is to come
pub record PieceComes (n made e : ℕ) (st : CutterStage) : Type 0 where
  pub between : st ≡ Between
  pub inside : 0 < made → e < n
  pub few : made ≤ max 1 n

-- what the partition gets of an image l, from block `start` on
pub record LaysRest (source spool partition : Bool) (b limit : ℕ) (l : List Block) (start made : ℕ)
    (r : Result Delivered FlashFault) (old new : PartitionState) : Type 0 where
  pub size : new.size ≡ old.size
  pub unread : (new.reads ≡ old.reads) × (new.given ≡ old.given)
  pub laid : IsTrue source → IsTrue spool → IsTrue partition
      → OnOk r (new.content ≡ over old.content (cells b (blocks_behind start l)))
  pub laid_up_to : IsTrue source → IsTrue spool → IsTrue partition → OnUnsyncedPiece r (λ j. new.content
      ≡ over old.content (cells b (blocks_up_to start (blocks_in_first limit b l j) l)))
  pub settled : IsTrue partition → OnOk r (new.past.pending ≡ [])
  pub synced : new.past.synced ≡ old.past.synced + finished made r
  pub unsynced : new.syncs + old.past.synced ≡ old.syncs + new.past.synced + refused_syncs r
  pub blocks : IsTrue source → IsTrue spool
      → OnOk r (new.taken ≡ old.taken + b * written_in (drop start l))

-- what that costs, with so many pieces made before
pub record RestWork (one made : ℕ) (r : Result Delivered FlashFault) (old new : Counts) (m m' : Meter) : Type 0 where
  pub calls : all_calls new + 8 * all_bytes old + 374 * made
      ≤ all_calls old + 8 * all_bytes new + 374 * begun made r
  pub turns : m'.turns.number + 8 * all_bytes old + 374 * made
      ≤ m.turns.number + 8 * all_bytes new + 374 * begun made r + 4 * one + 1
  pub work : Work old new m m'

-- who failed, and that nobody did
pub record RestFails (source spool : Bool) (made : ℕ) (r : Result Delivered FlashFault) (old new : Counts) : Type 0
  where
    pub faults : NoFaultFalls old new
    pub stops : IfErr r (λ e. StopsIn e made source spool old new)
    pub clean : OnOk r (NoneFailed old new)
