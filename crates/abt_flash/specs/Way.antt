-- How a piece is written to the spool.
use Rattle.std.specs.Prelude.{◌≡◌, ℕ, ◌+◌, ◌-◌, ◌*◌, ◌≤◌, ◌⊎◌, List, length, take, drop, max, Result, OnErr}
use Rattle.abt_io.specs.declared.meter.Meter.{Meter}
use Rattle.abt_runs.specs.Raw.{RawPlace, raw_charge}
use Rattle.abt_runs.specs.declared.part.Cursor.{Cursor}
use Rattle.abt_runs.specs.declared.raw.RawRuns.{RawRuns}
use Rattle.abt_runs.specs.declared.runs.BlockRuns as images
use Rattle.abt_pieces.specs.Calls.{Devices}
use Rattle.abt_pieces.specs.Cutter.{piece_words}
use Rattle.abt_pieces.specs.Image.{Appended, IsPlainImage}
use Rattle.abt_pieces.specs.NextPiece.{IsNext}
use Rattle.abt_pieces.specs.declared.fault.PieceFault.{PieceFault}
use Rattle.abt_pieces.specs.declared.outline.Piece.{Piece}
use Rattle.abt_pieces.specs.declared.stage.CutterStage.{CutterStage}
use Rattle.std.proofs.Common.{arith}
use Rattle.abt_placed.specs.Unfinished.{IsNoImage}
use Rattle.abt_placed.specs.Whole.{read_of}

-- What a piece may cost, whichever way it is written. Where finding the class of a block reads `one` bytes, its word
-- may be looked through three times.
pub record WayCosts (one : ℕ) (a z : Devices) (m m' : Meter) : Type 0 where
  pub given : a.given ≤ z.given
  pub steps : z.given + 65536 * m.steps.number ≤ a.given + 65536 * m'.steps.number
  pub greatest : m'.greatest.number ≤ max m.greatest.number 65536
  pub calls : z.reads + z.writes + 8 * (a.given + a.written) ≤ a.reads + a.writes + 8 * (z.given + z.written) + 140
  pub turns : m'.turns.number + 8 * (a.given + a.written) ≤ m.turns.number + 8 * (z.given + z.written) + 140 + 3 * one

-- Whatever the source gave, the piece p was written after what was stored there: an image, the next one. The source had
-- given d bytes before, and d' then.
pub record WritesNext {R : Type 0} (g : images.Ghosts R) (runs : R) (limit : ℕ) (start start' : Cursor)
    (made made' : ℕ) (st' : CutterStage) (d d' : ℕ) (old new : List ℕ) (m m' : Meter) (p : Piece) : Type 0 where
  pub image : Appended (IsPlainImage (g.size runs) (g.count runs)) old new
  pub piece : IsNext (g.count runs) limit start.block start'.block made made' st' p
  pub words : m'.turns.number ≤ m.turns.number + 8 * ((d' - d) + (length new - length old)) + 140
      + piece_words (g.one runs) (g.count runs) p.past
  pub takes : length new + g.taken runs start ≤ length old + g.taken runs start' + 80

-- what was read for it, also where it is the last of n blocks
pub record WaySpent (before : Cursor → ℕ) (n each last : ℕ) (start start' : Cursor) (d d' : ℕ) : Type 0 where
  pub piece : d' + before start ≤ d + before start' + each
  pub end : n ≤ start'.block → d' + before start ≤ d + before start' + last

-- Headers last: what was stored there stays, and where the piece is not finished, nothing is after it, or what is no
-- image whatever follows it.
pub record GrowsLate {X : Type 0} (r : Result X PieceFault) (old new : List ℕ) : Type 0 where
  pub before : take (length old) new ≡ old
  pub unfinished : OnErr r ((new ≡ old) ⊎ IsNoImage (drop (length old) new))

-- ---- what is read for a part of an image is no more than for all of it

-- what three passes and a copy read
pub forward_bounded : (charge pass copied image taken most : ℕ) → (charge ≤ pass) × (taken ≤ most) → copied ≤ image
    → 3 * charge + copied ≤ 3 * pass + image
forward_bounded charge pass copied image taken most h k = omega (arith, h.0, k)

-- what one pass reads
pub late_bounded : (long b n : ℕ) → read_of long b n ≤ long
late_bounded long b n = omega arith

-- ---- what is read of a source

-- Planning came to the place where the first piece begins that is delivered, in block `start`; it had read so much, and
-- all that is delivered from there on so much more.
pub record ReadFor (within : Cursor → Type 0) (charge before : Cursor → ℕ)
    (one each last all start made pieces old new : ℕ) : Type 0 where
  pub place : Cursor
  pub at : place.block ≡ start
  pub inside : within place
  pub given : ℕ
  pub planned : given ≤ old + charge place + made * (48 + one)
  pub delivered : new + before place + each ≤ given + all + last + pieces * each

-- The same of a raw image of blocks of b bytes, opened over so many.
pub record ReadForRaw (before : RawRuns → Cursor → ℕ) (each last all : RawRuns → ℕ)
    (b long start made pieces old new : ℕ) : Type 0 where
  pub runs : RawRuns
  pub size : runs.size ≡ b
  pub length : runs.length ≡ long
  pub reads : ReadFor (λ c. RawPlace runs.blocks runs.size c) (λ c. raw_charge runs.length runs.blocks runs.size c)
      (before runs) runs.size (each runs) (last runs) (all runs) start made pieces old new
