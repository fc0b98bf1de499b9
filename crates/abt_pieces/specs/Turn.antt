-- The piece of an image that comes next.
use Rattle.std.specs.Prelude.{◌≡◌, ℕ, List, ◌∷◌, drop}
use Rattle.abt_sparse.specs.Block.{Block}
use Rattle.abt_sparse.specs.Chunk.{piece}
use Rattle.abt_sparse.specs.Pieces.{pieces}
use Rattle.abt_pieces.specs.Cutter.{Made, segments_left}
use Rattle.abt_pieces.specs.Gather.{frame}
use Rattle.abt_pieces.specs.Plan.{FirstPiece}
use Rattle.abt_pieces.specs.declared.stage.CutterStage.TheVariants.{Between}

-- after i others comes x
pub record HasAt {X : Type 0} (xs : List X) (i : ℕ) (x : X) : Type 0 where
  pub rest : List X
  pub at : drop i xs ≡ x ∷ rest

-- Of an image's pieces the one after those that are made is the piece of the segment that begins where they end.
abbrev pub NextInTurn : Type 0
NextInTurn = (b limit made s e : ℕ) (l : List Block) → Made b limit l made (segments_left b limit l s Between)
    → FirstPiece b l limit s e → HasAt (pieces limit b l) made (piece b (frame l s e))
