use Rattle.abt_pieces.proofs.Cutting.{least_pieces}
use Rattle.abt_pieces.proofs.cutter.no_fewer_pieces.Goals as goal

pub returns : goal.returns
returns c = λ b limit made s l st parts m d. least_pieces b limit l made s st parts m d
