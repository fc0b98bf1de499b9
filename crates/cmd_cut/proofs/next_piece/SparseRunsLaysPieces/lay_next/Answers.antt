use Rattle.cmd_cut.proofs.Answered.{torn}
use Rattle.cmd_cut.proofs.Fronts.{no_front}
use Rattle.cmd_cut.proofs.next_piece.SparseRunsLaysPieces.lay_next.Goals as goal

pub returns-in-Err-clause-broken : goal.returns-in-Err-clause-broken
returns-in-Err-clause-broken g c = λ t.
    let f = c.write_next.new.output in
    torn _ (no_front f.held _ f.room f.zeros f.next)

pub returns-in-Err-answer-clause-broken : goal.returns-in-Err-answer-clause-broken
returns-in-Err-answer-clause-broken g c = λ t. torn _ (rw c.in-Err-answer.is at c.finish-image.ensures.broken)
