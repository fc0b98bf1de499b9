use Rattle.std.proofs.Common.{◌∙◌, sym, map}
use Rattle.words_sayings.specs.Rows.{shape_of}
use Rattle.words_orders.specs.Asked.{is_enough, saying_of_answer}
use Rattle.words_sayings.proofs.Mapped.{all_fail, all_later, all_pass}
use Rattle.words_orders.proofs.answers.Answers.are_enough.Goals as goal

pub returns-then-not-is_enough : goal.returns-then-not-is_enough
returns-then-not-is_enough c =
    sym (all_fail (λ row. shape_of row.now) (is_enough (map saying_of_answer c.args.self.now.all.items))
    c.args.rows.now c.loop-row.row-index _ c.loop-row-test.true
    (sym c.is_enough.ensures ∙ c.if-not-is_enough.true)) ∙ c.loop-row.invariant

pub loop-row-preserved : goal.loop-row-preserved
loop-row-preserved c =
    sym (all_later (λ row. shape_of row.now) (is_enough (map saying_of_answer c.args.self.now.all.items))
    c.args.rows.now c.loop-row.row-index _ c.loop-row-test.true
    (sym c.is_enough.ensures ∙ c.if-not-is_enough.false)) ∙ c.loop-row.invariant

pub returns : goal.returns
returns c =
    sym (all_pass (λ row. shape_of row.now) (is_enough (map saying_of_answer c.args.self.now.all.items))
    c.args.rows.now c.loop-row.row-index c.loop-row-test.false)
    ∙ c.loop-row.invariant
