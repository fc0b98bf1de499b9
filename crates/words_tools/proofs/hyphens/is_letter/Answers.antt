use Rattle.words_tools.proofs.Rejecting.{letter_begun}
use Rattle.words_tools.proofs.hyphens.is_letter.Goals as goal

pub returns-then-begins : goal.returns-then-begins
returns-then-begins c = λ _.
    letter_begun c.args.rows.now c.args.behind.now c.loop-row.row-index _ c.begins.result c.loop-row-test.true
    c.in-Letter.is c.begins.ensures c.if-begins.true
