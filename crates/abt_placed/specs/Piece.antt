-- A whole piece that is written in one pass. An image is a piece without a limit.
use Rattle.std.specs.Prelude.{◌≡◌, ℕ, ◌-◌, ◌≤◌, Bool, IsTrue, List, ◌++◌, length}
use Rattle.std.specs.List.{AllByRecursion}
use Rattle.abt_sparse.specs.Block.{Block, AreBlocks, classify}
use Rattle.abt_sparse.specs.Chunk.{chunks_of, spelling}
use Rattle.abt_sparse.specs.Runs.{framed, weight}
use Rattle.abt_pieces.specs.Plan.{between, FirstPiece}
use Rattle.abt_placed.specs.Segment.{IsHeldBlock}
use Rattle.std.specs.Prelude.{◌+◌, ◌*◌, ◌^◌, ◌<◌, IfOk, IfErr, IfNone, IfSome, OnOk, OnErr, Option, Result, Err}
use Rattle.abt_io.specs.declared.meter.Meter.{Meter}
use Rattle.abt_runs.specs.Raw.{RawPlace}
use Rattle.abt_runs.specs.Tail.{raw_list}
use Rattle.abt_runs.specs.declared.part.Cursor.{Cursor}
use Rattle.abt_runs.specs.declared.raw.RawRuns.{RawRuns}
use Rattle.abt_pieces.specs.Calls.{Devices}
use Rattle.abt_pieces.specs.Cutter.{SoundOutline, ToldCutter}
use Rattle.abt_pieces.specs.Image.{Appended, IsPlainImage}
use Rattle.abt_pieces.specs.NextPiece.{IsNext}
use Rattle.abt_pieces.specs.declared.fault.PieceFault.{PieceFault}
use Rattle.abt_pieces.specs.declared.outline.Outline.{Outline}
use Rattle.abt_pieces.specs.declared.outline.Piece.{Piece}
use Rattle.abt_pieces.specs.declared.stage.CutterStage.{CutterStage}
use Rattle.abt_pieces.specs.declared.stage.CutterStage.TheVariants.{Done, Failed}
use Rattle.abt_sparsify.specs.declared.count.Written.{Written}
use Rattle.abt_placed.specs.Segment.{IsUncut}
use Rattle.abt_placed.specs.Whole.{read_of}

-- after `old` comes the image of these n blocks, in so many chunks, raw runs cut every r blocks
pub record LaidPiece (b n r chunks : ℕ) (f : List Block) (old now : List ℕ) : Type 0 where
  pub good : AreBlocks b f
  pub count : length f ≡ n
  pub chunks_are : chunks ≡ length (chunks_of r f)
  pub stands : now ≡ old ++ spelling b r f

-- So does that of some segment from block `first` up to `past` of an image of n blocks; where the source models its
-- bytes x, it is the first piece of what begins there; the tail is raw where t says so.
pub record WholePiece (models t : Bool) (x : List ℕ) (b n limit r first past chunks : ℕ) (old now : List ℕ) : Type 0
  where
    pub blocks : List Block
    pub laid : LaidPiece b n r chunks (framed first blocks (n - past)) old now
    pub held : AllByRecursion IsHeldBlock blocks
    pub fits : weight b blocks ≤ limit
    pub told : IsTrue models → (blocks ≡ between (raw_list t b x) first past)
        × FirstPiece b (raw_list t b x) limit first past

-- So is written what an outline says, from block `first` of these runs on: the next piece, within its limit where no
-- raw run is cut, and whole where the limit is none.
pub record OutlineLaid (models t : Bool) (x : List ℕ) (runs : RawRuns) (limit r first : ℕ) (old new : List ℕ)
    (o : Outline) : Type 0 where
  pub sound : IsUncut runs.size limit r
      → SoundOutline (λ c. RawPlace runs.blocks runs.size c) runs.blocks limit first o
  pub reached : 2 ^ 49 ≤ limit → o.piece.past ≡ runs.blocks
  pub next : RawPlace runs.blocks runs.size o.next
  pub written : o.piece.written ≡ o.piece.past - o.piece.first
  pub bytes : length new ≡ length old + o.piece.bytes
  pub whole : WholePiece models t x runs.size runs.blocks limit r first o.piece.past o.chunks old new
  pub takes : IsUncut runs.size limit r → o.piece.bytes ≤ (o.piece.past - o.piece.first) * (runs.size + 16) + 80

-- What that reads and costs. The source gives each byte once, and at most a window more; only words of the last block
-- may be compared without being read.
pub record OutlineWork (runs : RawRuns) (first : ℕ) (r : Result Outline PieceFault) (a z : Devices) (m m' : Meter)
    : Type 0 where
  pub economy : z.given + read_of runs.length runs.size first ≤ a.given + runs.length
  pub least : IfOk r (λ o. a.given + read_of runs.length runs.size o.piece.past
      ≤ z.given + read_of runs.length runs.size first)
  pub last : IfOk r (λ o. z.given + read_of runs.length runs.size first
      ≤ a.given + read_of runs.length runs.size o.piece.past + 65536)
  pub calls : z.reads + z.writes + a.written ≤ a.reads + a.writes + z.written + 6 * (z.given - a.given) + 100
  pub turns : m'.turns.number + a.written ≤ m.turns.number + z.written + 8 * (z.given - a.given) + runs.size + 100
  pub going_turns : IfOk r (λ o. o.piece.past < runs.blocks → m'.turns.number + a.written
      ≤ m.turns.number + z.written + 8 * (z.given - a.given) + 100)

-- The same of a cutter's next piece p, whatever the source gave.
pub record PieceAt (runs : RawRuns) (limit first first' made made' : ℕ) (st' : CutterStage) (old new : List ℕ)
    (a z : Devices)
    (m m' : Meter) (p : Piece) : Type 0 where
  pub image : Appended (IsPlainImage runs.size runs.blocks) old new
  pub piece : IsNext runs.blocks limit first first' made made' st' p
  pub long : length new ≡ length old + p.bytes
  pub takes : p.bytes ≤ (p.past - p.first) * (runs.size + 16) + 80
  pub once : z.given + read_of runs.length runs.size p.first ≤ a.given + read_of runs.length runs.size p.past + 65536
  pub going_turns : p.past < runs.blocks → m'.turns.number + a.written
      ≤ m.turns.number + z.written + 8 * (z.given - a.given) + 100

-- what it reads and costs, whatever it returns
pub record PieceAtWork (runs : RawRuns) (first : ℕ) (a z : Devices) (m m' : Meter) : Type 0 where
  pub economy : z.given + read_of runs.length runs.size first ≤ a.given + runs.length
  pub calls : z.reads + z.writes + a.written ≤ a.reads + a.writes + z.written + 6 * (z.given - a.given) + 100
  pub turns : m'.turns.number + a.written ≤ m.turns.number + z.written + 8 * (z.given - a.given) + runs.size + 100

-- before the call: the cutter is one of a source that holds x, and its stage is so
pub record ReadyRaw (models : Bool) (x : List ℕ) (runs : RawRuns) (limit made : ℕ) (start : Cursor) (st : CutterStage)
    : Type 0 where
  pub opened : IsTrue models → runs.length ≡ length x
  pub told : IsTrue models → ToldCutter (λ c. RawPlace runs.blocks runs.size c) (λ c. runs.blocks - c.block) runs.size
      (classify runs.size x) limit made start st

-- After the last piece none is returned, and no fault; after a fault it is returned again, and nothing is done. A
-- fault is kept.
pub record AnswersOver (st st' : CutterStage) (unchanged still : Type 0) (r : Result (Option Piece) PieceFault) : Type
    0 where
  pub none : IfOk r (λ o. IfNone o ((st ≡ Done) × unchanged × still))
  pub after_last : st ≡ Done → IfOk r (λ o. IfSome o (λ p. ⊥)) × OnErr r ⊥
  pub again : (f : PieceFault) → st ≡ Failed f → (r ≡ Err f) × unchanged
  pub refused : IfErr r (λ e. st' ≡ Failed e)

-- An image of a blocks of b bytes in so many chunks is after `old`, as long as is reported, and the blocks are what a
-- source of so many bytes fills.
pub record ImageWritten (b size : ℕ) (a : Written) (old new : List ℕ) : Type 0 where
  pub blocks : (size ≤ a.blocks * b) × (a.blocks * b < size + b)
  pub long : length new ≡ length old + a.bytes
  pub image : Appended (IsPlainImage b a.blocks) old new

-- of `size` bytes none is read twice, and after an Ok each once
pub record ReadsOnce {X E : Type 0} (size : ℕ) (r : Result X E) (given given' : ℕ) : Type 0 where
  pub economy : given' ≤ given + size
  pub once : OnOk r (given' ≡ given + size)
