-- What a call that writes or passes the next piece leaves of its cutter, and what the piece is.
use Rattle.std.specs.Prelude.{◌≡◌, ℕ, ◌+◌, ◌-◌, ◌*◌, ◌≤◌, false, List, ◌++◌, length, IsTrue, Result, IfErr}
use Rattle.abt_io.specs.Lent.{OnlyReads}
use Rattle.abt_io.specs.declared.device.Source as sources
use Rattle.abt_io.specs.declared.meter.Meter.{Meter}
use Rattle.abt_sparse.specs.Block.{Block}
use Rattle.abt_sparse.specs.Chunk.{piece}
use Rattle.abt_runs.specs.declared.part.Cursor.{Cursor}
use Rattle.abt_runs.specs.declared.runs.BlockRuns as images
use Rattle.abt_pieces.specs.Cutter.{ToldCutter, Passed, is_begun, piece_words}
use Rattle.abt_pieces.specs.Image.{Appended, IsPlainImage}
use Rattle.abt_pieces.specs.Outline.{IsPieceOf, piece_blocks, piece_at}
use Rattle.abt_pieces.specs.Plan.{FirstPiece}
use Rattle.abt_pieces.specs.PlanStep.{Charged}
use Rattle.abt_pieces.specs.declared.fault.PieceFault.{PieceFault}
use Rattle.abt_pieces.specs.declared.outline.Piece.{Piece}
use Rattle.abt_pieces.specs.declared.stage.CutterStage.{CutterStage}
use Rattle.abt_pieces.specs.declared.stage.CutterStage.TheVariants.{Failed}

-- the cutter is of the same image and limit, and no piece is begun
pub record SameCutter {R : Type 0} (runs runs' : R) (limit limit' : ℕ) (st : CutterStage) : Type 0 where
  pub same_image : runs' ≡ runs
  pub same_limit : limit' ≡ limit
  pub unbegun : is_begun st ≡ false

-- A step that plans, or begins, stays at its place, and refuses for good.
pub record KeepsPlace {X R : Type 0} (r : Result X PieceFault) (image image' : R) (limit limit' : ℕ)
    (start start' : Cursor) (made made' : ℕ) (st' : CutterStage) : Type 0 where
  pub runs : image' ≡ image
  pub rest : (limit' ≡ limit) × (start' ≡ start) × (made' ≡ made)
  pub refused : IfErr r (λ e. st' ≡ Failed e)

-- A call that reads for the next piece leaves the cutter so, with what it knows of a source that models its content; it
-- refuses for good.
pub record LeavesCutter {R A : Type 0} (g : images.Ghosts R) (s : sources.Ghosts A) {X : Type 0}
    (r : Result X PieceFault) (runs runs' : R) (limit limit' made' : ℕ) (start' : Cursor) (st' : CutterStage)
    (old new : A)
    : Type 0 where
  pub cutter : SameCutter runs runs' limit limit' st'
  pub reads : OnlyReads r s old new
  pub told : IsTrue s.models → ToldCutter (g.place runs (s.content old)) (g.together runs (s.content old))
      (g.size runs) (g.list runs (s.content old)) limit' made' start' st'
  pub refused : IfErr r (λ e. st' ≡ Failed e)

-- The piece p goes from the block where the cutter was to the one where it is now, of the n blocks of the image;
-- one piece more was made.
pub record IsNext (n limit first next made made' : ℕ) (st : CutterStage) (p : Piece) : Type 0 where
  pub passed : Passed n p.first p.past st
  pub begins : p.first ≡ first
  pub ends : p.past ≡ next
  pub least : 28 ≤ p.bytes
  pub most : p.bytes ≤ limit
  pub one_more : made' ≡ made + 1

-- After what was stored there, the piece p of these blocks: the one that the limit allows from this block on.
pub record LaidNext (b limit : ℕ) (l : List Block) (first : ℕ) (p : Piece) (old new : List ℕ) : Type 0 where
  pub written : new ≡ old ++ piece b (piece_blocks l p)
  pub coming : new ≡ old ++ piece_at b limit l first
  pub exact : IsPieceOf b l p
  pub greatest : FirstPiece b l limit p.first p.past

-- Whatever the source gave, the piece p was written after what was stored there: an image, as long as it says. The
-- source had given d bytes before, and d' then.
pub record PieceMade {R : Type 0} (g : images.Ghosts R) (runs : R) (limit : ℕ) (start start' : Cursor)
    (made made' : ℕ) (st' : CutterStage) (d d' : ℕ) (old new : List ℕ) (m m' : Meter) (p : Piece) : Type 0 where
  pub image : Appended (IsPlainImage (g.size runs) (g.count runs)) old new
  pub piece : IsNext (g.count runs) limit start.block start'.block made made' st' p
  pub long : length new ≡ length old + p.bytes
  pub takes : p.bytes + g.taken runs start ≤ g.taken runs start' + 80
  pub words : m'.turns.number ≤ m.turns.number + 6 * ((d' - d) + (length new - length old)) + 32
      + piece_words (g.one runs) (g.count runs) p.past

-- the piece p was planned and passed
pub record PiecePassed {R : Type 0} (g : images.Ghosts R) (image : R) (limit : ℕ) (start start' : Cursor)
    (made made' : ℕ) (st' : CutterStage) (d d' : ℕ) (m m' : Meter) (p : Piece) : Type 0 where
  pub piece : IsNext (g.count image) limit start.block start'.block made made' st' p
  pub charges : Charged (g.charge image) (g.one image) (g.count image) start start' p.past d d'
  pub takes : p.bytes + g.taken image start ≤ g.taken image start' + 80
  pub words : m'.turns.number ≤ m.turns.number + 5 * (d' - d) + 2 + piece_words (g.one image) (g.count image) p.past
