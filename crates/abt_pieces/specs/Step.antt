-- What one step of cutting leaves, and what it costs.
use Rattle.std.specs.Prelude.{◌≡◌, ℕ, ◌+◌, ◌-◌, ◌*◌, ◌≤◌, ◌<◌, List, ◌++◌, max}
use Rattle.abt_io.specs.declared.meter.Meter.{Meter}
use Rattle.abt_sparse.specs.Block.{Block}
use Rattle.abt_runs.specs.declared.part.Cursor.{Cursor}
use Rattle.abt_runs.specs.declared.runs.BlockRuns as images
use Rattle.abt_pieces.specs.Calls.{Devices}
use Rattle.abt_pieces.specs.Cutter.{coming, so_far, cut_left, silent_cut, cut_words, piece_words}
use Rattle.abt_pieces.specs.Outline.{IsPieceOf}
use Rattle.abt_pieces.specs.Plan.{FirstPiece}
use Rattle.abt_pieces.specs.declared.outline.Piece.{Piece}
use Rattle.abt_pieces.specs.declared.stage.CutterStage.{CutterStage}

-- One step receives at most a window, and writes at most 80 bytes more than it received. Of words that are compared
-- without being read, `words` were counted before, and at most `more` may be.
pub record CutStepCosts (words more : ℕ) (a z : Devices) (m m' : Meter) : Type 0 where
  pub given : a.given ≤ z.given
  pub received : z.given ≤ a.given + 65536
  pub grown : a.written ≤ z.written
  pub few : z.written ≤ a.written + (z.given - a.given) + 80
  pub steps : m'.steps.number ≡ m.steps.number + 1
  pub greatest : m'.greatest.number ≡ max m.greatest.number (z.given - a.given)
  pub calls : z.reads ≤ a.reads + (z.given - a.given) + 2
  pub write_calls : z.writes + a.written ≤ a.writes + z.written + 1
  pub turns : m'.turns.number + words
      ≤ m.turns.number + 2 * (z.given - a.given) + (z.written - a.written) + 3 + more

-- The begun piece of an image goes on: what was written is counted, there is less left to do, and a step that moves no
-- byte is paid for by what was moved before.
pub record PieceGoesOn {R : Type 0} (g : images.Ghosts R) (image : R) (start start' : Cursor) (made made' : ℕ)
    (st st' : CutterStage) (a z : Devices) (m m' : Meter) : Type 0 where
  pub same_place : start' ≡ start
  pub same_number : made' ≡ made
  pub counted : so_far st' ≡ so_far st + (z.written - a.written)
  pub left : cut_left (g.left image) (g.count image) start st' < cut_left (g.left image) (g.count image) start st
  pub paid : silent_cut (g.count image) st'
      < silent_cut (g.count image) st + (z.given - a.given) + (z.written - a.written)
  pub words : m'.turns.number + cut_words (g.one image) (g.count image) start st
      ≤ m.turns.number + 2 * (z.given - a.given) + (z.written - a.written) + 3
      + cut_words (g.one image) (g.count image) start' st'

-- The begun piece of an image has ended as p: its bytes are those that were written of it.
pub record PieceEnds {R : Type 0} (g : images.Ghosts R) (image : R) (start start' : Cursor) (st : CutterStage)
    (p : Piece)
    (a z : Devices) (m m' : Meter) : Type 0 where
  pub long : p.bytes ≡ so_far st + (z.written - a.written)
  pub takes : p.bytes + g.taken image start ≤ g.taken image start' + 80
  pub words : m'.turns.number + cut_words (g.one image) (g.count image) start st
      ≤ m.turns.number + 2 * (z.given - a.given) + (z.written - a.written) + 3
      + piece_words (g.one image) (g.count image) p.past

-- What was to come of the piece is after what was stored there, and p is the piece that the limit allows.
pub record CameWhole (b limit : ℕ) (l : List Block) (first : ℕ) (st : CutterStage) (p : Piece) (old new : List ℕ) :
    Type 0 where
  pub written : new ≡ old ++ coming b limit l first st
  pub exact : IsPieceOf b l p
  pub greatest : FirstPiece b l limit p.first p.past
