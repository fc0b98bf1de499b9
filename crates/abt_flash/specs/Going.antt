-- A delivery between two pieces: what is still to come.
use Rattle.std.specs.Prelude.{◌≡◌, ℕ, ◌+◌, ◌-◌, ◌*◌, ◌≤◌, ◌<◌, ◌⊎◌, Bool, false, Result, Ok, Err, List, length, map}
use Rattle.std.specs.Prelude.{if◌then◌else◌, nat_lt, None, slice_index_or, max}
use Rattle.abt_io.specs.Moment.{Moment, Past, EachSince, moment_of, is_pending}
use Rattle.abt_sparse.specs.Block.{Block, cells}
use Rattle.abt_sparse.specs.Runs.{frames, framed}
use Rattle.abt_sparse.specs.Chunk.{piece}
use Rattle.abt_sparse.specs.Mending.{Mendable}
use Rattle.abt_pieces.specs.Outline.{segment_at}
use Rattle.abt_pieces.specs.Cutter.{segments_left}
use Rattle.abt_pieces.specs.declared.stage.CutterStage.{CutterStage}
use Rattle.abt_pieces.specs.declared.stage.CutterStage.TheVariants.{Between, Plan, Begin, Write, Done, Failed}
use Rattle.abt_io.specs.declared.meter.Meter.{Meter}
use Rattle.abt_io.specs.declared.device.DeviceFault.TheVariants.{Failed as DeviceFailed}
use Rattle.abt_flash.specs.Devices.{Counts}
use Rattle.abt_flash.specs.Delivering.{HasBegun, StopsFor, MendableThen}
use Rattle.abt_flash_faults.specs.declared.fault.FlashFault.{FlashFault}
use Rattle.abt_flash_faults.specs.declared.fault.FlashFault.TheVariants as flashes

-- ---- where a cutter is

-- after a piece that ends before block e of n
pub record IsBehindPiece (n e : ℕ) (st : CutterStage) : Type 0 where
  pub between : e < n → st ≡ Between
  pub done : n ≤ e → st ≡ Done

-- from block s on, one piece more was made, up to block e of n
pub record GoesBehind (n k k' s e : ℕ) (st : CutterStage) : Type 0 where
  pub made : k' ≡ k + 1
  pub stands : IsBehindPiece n e st
  pub moves : e < n → s < e

-- between pieces or after the last, with so many pieces made up to block e of n
pub record Unbroken (n made e : ℕ) (st : CutterStage) : Type 0 where
  pub stands : (st ≡ Between) ⊎ (st ≡ Done)
  pub between : st ≡ Between → 0 < made → e < n
  pub done : st ≡ Done → (0 < made) × (n ≤ e)

-- how many words may have been compared without being read, in all pieces so far
abbrev pub words_so_far : ℕ → ℕ → ℕ → CutterStage → ℕ
words_so_far one n e Between = if nat_lt (e + 1) n then 0 else one
words_so_far one n e Done = 4 * one
words_so_far one n e (Plan p) = 0
words_so_far one n e (Begin o) = 0
words_so_far one n e (Write o w) = 0
words_so_far one n e (Failed f) = 0

-- ---- what is still to be made

-- the blocks of the pieces that are left, and these pieces
abbrev pub frames_left : ℕ → ℕ → List Block → ℕ → CutterStage → List (List Block)
frames_left limit b l s st = frames s (segments_left b limit l s st)

abbrev pub pieces_left : ℕ → ℕ → List Block → ℕ → CutterStage → List (List ℕ)
pieces_left limit b l s st = map (piece b) (frames_left limit b l s st)

-- the blocks of the next piece
abbrev pub blocks_at : ℕ → ℕ → List Block → ℕ → List Block
blocks_at limit b l s = framed s (segment_at b limit l s) (length l - (s + length (segment_at b limit l s)))

-- A state in which no byte that the image does not write, and none before block `done`, is pending, or other than it
-- is to be.
pub record MendableAt (b : ℕ) (l : List Block) (p : List ℕ) (done : ℕ) (m : Moment) : Type 0 where
  pub content : Mendable b l p m.content done
  pub settled : (i : ℕ) → i < length p → (i < done * b) ⊎ (slice_index_or (cells b l) i None ≡ None)
      → is_pending m.pending i ≡ false

-- Since a call began, after so many pieces and syncs and with these states, every intermediate state left what a
-- delivery mends, and the present one does with the first s blocks whole.
pub record Staying (limit b : ℕ) (l : List Block) (p : List ℕ) (made synced s : ℕ) (old : List Moment) (past : Past)
    (content : List ℕ) : Type 0 where
  pub since : EachSince old past.moments (MendableThen limit b l p made synced)
  pub now : MendableAt b l p s (moment_of past content)

-- ---- refusals

-- planning is refused by the source, or since no piece is left
abbrev pub PlanRefused : FlashFault → ℕ → Bool → ℕ → ℕ → Type 0
PlanRefused (flashes.Read d) before models r r' = (r < r') × (d ≡ DeviceFailed)
PlanRefused flashes.SourceChanged before models r r' = models ≡ false
PlanRefused (flashes.NoSuchPiece k) before models r r' = (0 < k) × (k ≤ before)
PlanRefused (flashes.Sparse f) before models r r' = ⊥
PlanRefused (flashes.Write d) before models r r' = ⊥
PlanRefused flashes.TooLarge before models r r' = ⊥
PlanRefused (flashes.BadBlock n) before models r r' = ⊥
PlanRefused (flashes.LimitTooSmall n) before models r r' = ⊥
PlanRefused (flashes.PartitionTooSmall n) before models r r' = ⊥
PlanRefused (flashes.Sync d) before models r r' = ⊥
PlanRefused (flashes.Stopped n c) before models r r' = ⊥

-- so many pieces were planned, where so many were to be, of k that the image has
abbrev pub HasPlanned : Bool → ℕ → Result (Unit {0}) FlashFault → ℕ → ℕ → Type 0
HasPlanned models k (Ok u) before n = n ≡ before
HasPlanned models k (Err f) before n = HasBegun models k (Err f) before n

-- what planning costs
pub record PlanningCosts (models : Bool) (k before one : ℕ) (r : Result (Unit {0}) FlashFault)
    (reads given reads' given' : ℕ) (m m' : Meter) : Type 0 where
  pub begun : ℕ
  pub counted : HasPlanned models k r before begun
  pub calls : reads' + 8 * given ≤ reads + 8 * given' + 128 * (begun + 1)
  pub turns : m'.turns.number + 8 * given ≤ m.turns.number + 8 * given' + 4 * one + 129 * (begun + 1) + 1
  pub read : given ≤ given'
  pub steps : given' + 65580 * m.steps.number ≤ given + 65580 * m'.steps.number
  pub greatest : m'.greatest.number ≤ max m.greatest.number 65580

-- from the first piece on there are stops alone
abbrev pub StopsIn : FlashFault → ℕ → Bool → Bool → Counts → Counts → Type 0
StopsIn (flashes.Stopped j c) made source spool a z = (made < j) × StopsFor c source spool a z
StopsIn (flashes.Read d) made source spool a z = ⊥
StopsIn flashes.SourceChanged made source spool a z = ⊥
StopsIn (flashes.NoSuchPiece k) made source spool a z = ⊥
StopsIn (flashes.Sparse f) made source spool a z = ⊥
StopsIn (flashes.Write d) made source spool a z = ⊥
StopsIn flashes.TooLarge made source spool a z = ⊥
StopsIn (flashes.BadBlock n) made source spool a z = ⊥
StopsIn (flashes.LimitTooSmall n) made source spool a z = ⊥
StopsIn (flashes.PartitionTooSmall n) made source spool a z = ⊥
StopsIn (flashes.Sync d) made source spool a z = ⊥

-- ---- what a piece costs

-- the calls of all devices: of the source, of the spool (read, written, cleared) and of the partition (written, synced)
abbrev pub calls_in : ℕ → ℕ → ℕ → ℕ → ℕ → ℕ → ℕ
calls_in reads spool_reads spool_writes clears puts syncs = reads + spool_reads + spool_writes + clears + puts + syncs

-- the bytes that all devices gave or took
abbrev pub bytes_in : ℕ → ℕ → ℕ → ℕ → ℕ
bytes_in given spool_given written taken = given + spool_given + written + taken
