use Rattle.abt_pieces.proofs.Turning.{in_turn}
use Rattle.abt_pieces.proofs.cutter.next_in_turn.Goals as goal

pub returns : goal.returns
returns c = λ b limit made s e l m f. in_turn b limit made s e l m f
