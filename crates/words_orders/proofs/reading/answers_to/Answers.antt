use Rattle.std.proofs.Common.{map}
use Rattle.words_sayings.specs.Steps.{table_of}
use Rattle.words_sayings.specs.Words.{saying_of}
use Rattle.words_orders.proofs.Refusing.{unread_answers}
use Rattle.words_orders.proofs.reading.answers_to.Goals as goal

pub returns-in-Err-clause-none : goal.returns-in-Err-clause-none
returns-in-Err-clause-none c = λ is all h.
    unread_answers (table_of c.args.rows.now) (map saying_of c.args.said.now)
    (map (λ s. s.now) c.in_ok-placed.placed.items) c.in_ok-placed.ensures
    ((rw c.as_slice.ensures.value at c.in-Err.ensures.refused) is) all h
