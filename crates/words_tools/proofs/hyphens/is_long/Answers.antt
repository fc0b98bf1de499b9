use Rattle.words_tools.proofs.Rejecting.{option_begun, option_place}
use Rattle.words_tools.proofs.hyphens.is_long.Goals as goal

pub returns-in-Option : goal.returns-in-Option
returns-in-Option c = λ _ _.
    option_begun c.args.rows.now c.args.short.now c.loop-row.row-index _ c.begins.result c.loop-row-test.true
    (option_place _ c.in-Option.is) c.begins.ensures c.if-not-begins.false
