use Rattle.std.proofs.Common.{◌∙◌, sym}
use Rattle.words_orders.proofs.Placing.{found_place, next_place}
use Rattle.words_orders.proofs.reading.command_place.Goals as goal

pub returns-then-not-is_option_word : goal.returns-then-not-is_option_word
returns-then-not-is_option_word g c =
    found_place g.S.AsStr.text c.args.words.now c.loop-i.i c.index-words-i.result c.as_str.result.now
    c.loop-i-test.true c.index-words-i.is c.as_str.ensures
    (sym c.is_option_word.ensures ∙ c.if-not-is_option_word.true) ∙ c.loop-i.invariant

pub loop-i-preserved : goal.loop-i-preserved
loop-i-preserved g c =
    next_place g.S.AsStr.text c.args.words.now c.loop-i.i c.index-words-i.result c.as_str.result.now
    c.loop-i-test.true c.index-words-i.is c.as_str.ensures
    (sym c.is_option_word.ensures ∙ c.if-not-is_option_word.false) ∙ c.loop-i.invariant
