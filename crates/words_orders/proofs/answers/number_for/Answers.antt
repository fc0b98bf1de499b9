use Rattle.std.proofs.Common.{◌∙◌, sym}
use Rattle.words_sayings.proofs.Mapped.{clash}
use Rattle.words_orders.proofs.ReadKinds.{read_from, reads_by, same_taken, taken_from}
use Rattle.words_orders.proofs.Told.{none_is_some}
use Rattle.words_orders.proofs.answers.number_for.Goals as goal

pub returns-in_err-number-clause-accepts : goal.returns-in_err-number-clause-accepts
returns-in_err-number-clause-accepts c = λ n r.
    absurd (none_is_some n (c.in_err-number.ensures.accepts n (read_from c.args.row.now.value c.args.word.now n r)))

pub returns-then-takes-clause-value : goal.returns-then-takes-clause-value
returns-then-takes-clause-value c =
    reads_by c.args.row.now.value c.args.word.now c.in_ok-number.number c.in_ok-number.ensures.value
    (sym c.takes.ensures ∙ c.if-takes.true)

pub returns-then-takes-clause-accepts : goal.returns-then-takes-clause-accepts
returns-then-takes-clause-accepts c = λ n r.
    c.in_ok-number.ensures.accepts n (read_from c.args.row.now.value c.args.word.now n r)

pub returns-else-takes-clause-accepts : goal.returns-else-takes-clause-accepts
returns-else-takes-clause-accepts c = λ n r.
    absurd (clash (sym c.if-takes.false ∙ c.takes.ensures
    ∙ same_taken c.args.row.now.value c.args.word.now c.in_ok-number.number n
    (c.in_ok-number.ensures.accepts n (read_from c.args.row.now.value c.args.word.now n r))
    ∙ taken_from c.args.row.now.value c.args.word.now n r))
