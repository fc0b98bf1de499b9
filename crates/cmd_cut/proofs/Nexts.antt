-- What the engine's results mean for the next piece.
use Rattle.std.proofs.Common.{◌≡◌, ℕ, List, [], ◌++◌, sym, ◌∙◌, ap, subst, length}
use Rattle.std.proofs.lemmas.Bool.{false≢true}
use Rattle.abt_sparse.specs.Block.{Block}
use Rattle.abt_sparse.specs.Chunk.{piece}
use Rattle.abt_sparse.specs.Pieces.{pieces}
use Rattle.abt_pieces.specs.Cutter.{Made, segments_left, has_more}
use Rattle.abt_pieces.specs.Gather.{frame}
use Rattle.abt_pieces.specs.NextPiece.{LaidNext}
use Rattle.abt_pieces.specs.Outline.{piece_blocks}
use Rattle.abt_pieces.specs.Turn.{HasAt}
use Rattle.abt_pieces.specs.declared.outline.Piece.{Piece}
use Rattle.abt_pieces.specs.declared.stage.CutterStage.{CutterStage}
use Rattle.abt_pieces.specs.declared.stage.CutterStage.TheVariants.{Between, Done}
use Rattle.abt_pieces.proofs.Turning.{in_turn}
use Rattle.cmd_cut.specs.Cutting.{NumbersOfPiece}

-- between two pieces a cutter is not done, and no call has failed
pub not_done : (st : CutterStage) → st ≡ Between → st ≡ Done → ⊥
not_done st between done = false≢true (sym (ap has_more (sym between ∙ done)))

-- what was written to an empty output is the piece after those that are made
pub next_laid : (b limit made first : ℕ) (l : List Block) (p : Piece) (old new : List ℕ) (st : CutterStage) → st
    ≡ Between
    → old ≡ [] → Made b limit l made (segments_left b limit l first st) → p.first ≡ first
    → LaidNext b limit l first p old new → HasAt (pieces limit b l) made new
next_laid b limit made first l p old new st between empty cuts begins laid =
    let made_so : Made b limit l made (segments_left b limit l p.first Between)
    = subst (λ s. Made b limit l made (segments_left b limit l s Between)) (sym begins)
    (subst (λ s. Made b limit l made (segments_left b limit l first s)) between cuts) in
    let here : HasAt (pieces limit b l) made (piece b (frame l p.first p.past))
    = in_turn b limit made p.first p.past l made_so laid.greatest in
    let is : new ≡ piece b (frame l p.first p.past)
    = laid.written ∙ ap (λ x. x ++ piece b (frame l p.first p.past)) empty in
    subst (λ x. HasAt (pieces limit b l) made x) (sym is) here

-- and these are its numbers
pub next_told : (b limit made first : ℕ) (l : List Block) (p : Piece) (old new : List ℕ) (st : CutterStage) → st
    ≡ Between
    → old ≡ [] → Made b limit l made (segments_left b limit l first st) → p.first ≡ first
    → LaidNext b limit l first p old new → NumbersOfPiece limit b l made p
next_told b limit made first l p old new st between empty cuts begins laid =
    let is : new ≡ piece b (piece_blocks l p) = laid.written ∙ ap (λ x. x ++ piece b (piece_blocks l p)) empty in
    record {
      bytes = new;
      is_next = next_laid b limit made first l p old new st between empty cuts begins laid;
      framed = is;
      long = laid.exact.long ∙ ap length (sym is);
    }
