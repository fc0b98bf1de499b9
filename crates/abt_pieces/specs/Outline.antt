-- A planned piece.
use Rattle.std.specs.Prelude.{◌≡◌, ℕ, ◌+◌, ◌-◌, ◌≤◌, List, [], ◌∷◌, length, drop, nat_le}
use Rattle.abt_sparse.specs.Block.{Block}
use Rattle.abt_sparse.specs.Runs.{runs, weight, greedy, framed}
use Rattle.abt_sparse.specs.Chunk.{piece}
use Rattle.abt_pieces.specs.Contents.{written_in}
use Rattle.abt_pieces.specs.Gather.{frame}
use Rattle.abt_pieces.specs.declared.outline.Piece.{Piece}
use Rattle.abt_pieces.specs.declared.outline.Outline.{Outline}

-- the blocks of the piece p of an image of these blocks
abbrev pub piece_blocks : List Block → Piece → List Block
piece_blocks l p = frame l p.first p.past

-- the numbers of a piece of an image of these blocks
pub record IsPieceOf (b : ℕ) (l : List Block) (p : Piece) : Type 0 where
  pub order : p.first ≤ p.past
  pub within : p.past ≤ length l
  pub held : p.written ≡ written_in (piece_blocks l p)
  pub long : p.bytes ≡ length (piece b (piece_blocks l p))

pub record IsOutline (b : ℕ) (l : List Block) (o : Outline) : Type 0 where
  pub is : IsPieceOf b l o.piece
  pub count : o.chunks ≡ length (runs (piece_blocks l o.piece))

-- ---- the piece that begins at block s

abbrev pub first_part : List (List Block) → List Block
first_part [] = []
first_part (g ∷ gs) = g

-- the longest segment from block s on that weighs no more than the limit
abbrev pub segment_at : ℕ → ℕ → List Block → ℕ → List Block
segment_at b limit l s = first_part (greedy (λ part. nat_le (weight b part) limit) [] (drop s l))

-- the piece of that segment
abbrev pub piece_at : ℕ → ℕ → List Block → ℕ → List ℕ
piece_at b limit l s = piece b (framed s (segment_at b limit l s) (length l - (s + length (segment_at b limit l s))))
