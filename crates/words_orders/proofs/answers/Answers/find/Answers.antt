use Rattle.std.proofs.Common.{◌∙◌, sym, ap}
use Rattle.words_orders.specs.Asked.{answer_named, is_named}
use Rattle.words_orders.proofs.Lists.{found_now, found_later, found_nowhere}
use Rattle.words_orders.proofs.answers.Answers.find.Goals as goal

pub returns-then-eq : goal.returns-then-eq
returns-then-eq c =
    sym (found_now (is_named c.args.name.now) c.deref-answer-items.result.now c.loop-answer.answer-index _
    c.loop-answer-test.true
    (sym c.eq.ensures ∙ c.if-eq.true)) ∙ sym c.loop-answer.invariant
    ∙ ap (answer_named c.args.name.now) c.deref-answer-items.ensures.value

pub loop-answer-preserved : goal.loop-answer-preserved
loop-answer-preserved c =
    c.loop-answer.invariant
    ∙ found_later (is_named c.args.name.now) c.deref-answer-items.result.now c.loop-answer.answer-index _
    c.loop-answer-test.true
    (sym c.eq.ensures ∙ c.if-eq.false)

pub returns : goal.returns
returns c =
    sym (found_nowhere (is_named c.args.name.now) c.deref-answer-items.result.now c.loop-answer.answer-index
    c.loop-answer-test.false)
    ∙ sym c.loop-answer.invariant ∙ ap (answer_named c.args.name.now) c.deref-answer-items.ensures.value
