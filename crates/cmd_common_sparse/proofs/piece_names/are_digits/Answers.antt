use Rattle.std.proofs.Common.{rules, tests}
use Rattle.std.proofs.lemmas.Iterator.{cases_from_all, YieldsList-from_slice}
use Rattle.cmd_common_sparse.specs.PieceNames.{IsDigit}
use Rattle.cmd_common_sparse.proofs.Points.{decided}
use Rattle.cmd_common_sparse.proofs.piece_names.are_digits.Goals as goal

pub returns : goal.returns
returns c =
    decided _ c.args.text.now (cases_from_all _ _ _ IsDigit (λ x. IsDigit x → ⊥) c.all.ensures.ran
    (YieldsList-from_slice c.args.text.now cc) (λ x q k. search (rules, tests)) (λ x q k. search (rules, tests)))
