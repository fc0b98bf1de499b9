use Rattle.std.proofs.Common.{◌∙◌, sym}
use Rattle.words_sayings.specs.Steps.{table_of}
use Rattle.words_sayings.specs.Rows.{shape_of}
use Rattle.words_sayings.specs.Words.{begins_with, lettered_in}
use Rattle.words_sayings.proofs.Mapped.{found_later, found_now, found_nowhere}
use Rattle.words_sayings.proofs.saying.lettered_in.Goals as goal

pub returns-then-begins_with : goal.returns-then-begins_with
returns-then-begins_with c =
    sym (found_now (λ row. shape_of row.now) (begins_with c.args.text.now) c.args.rows.now c.loop-row.row-index _
    c.loop-row-test.true
    (sym c.begins_with.ensures ∙ c.if-begins_with.true)) ∙ c.loop-row.invariant

pub loop-row-preserved : goal.loop-row-preserved
loop-row-preserved c =
    sym (found_later (λ row. shape_of row.now) (begins_with c.args.text.now) c.args.rows.now c.loop-row.row-index _
    c.loop-row-test.true
    (sym c.begins_with.ensures ∙ c.if-begins_with.false)) ∙ c.loop-row.invariant

pub returns : goal.returns
returns c =
    sym (found_nowhere (λ row. shape_of row.now) (begins_with c.args.text.now) c.args.rows.now c.loop-row.row-index
    c.loop-row-test.false)
    ∙ c.loop-row.invariant
