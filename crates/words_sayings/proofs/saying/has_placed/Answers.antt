use Rattle.std.proofs.Common.{◌∙◌, sym, ap}
use Rattle.words_sayings.proofs.InTurn.{placed_later, placed_now, placed_nowhere}
use Rattle.words_sayings.proofs.saying.has_placed.Goals as goal

pub returns-then-is_placed_word : goal.returns-then-is_placed_word
returns-then-is_placed_word g c =
    placed_now g.S.AsStr.text c.args.words.now c.loop-word.word-index c.loop-word.is_ended c.word-item.result
    c.as_str-text.result.now c.loop-word-test.true (c.as_str-text.ensures ∙ ap g.S.AsStr.text c.word-item.is)
    (sym c.is_placed_word.ensures ∙ c.if-is_placed_word.true) ∙ c.loop-word.invariant

pub loop-word-preserved : goal.loop-word-preserved
loop-word-preserved g c =
    rw c.is_ended_behind-is_ended.ensures
    (placed_later g.S.AsStr.text c.args.words.now c.loop-word.word-index c.loop-word.is_ended c.word-item.result
    c.as_str-text.result.now c.loop-word-test.true (c.as_str-text.ensures ∙ ap g.S.AsStr.text c.word-item.is)
    (sym c.is_placed_word.ensures ∙ c.if-is_placed_word.false) ∙ c.loop-word.invariant)

pub returns : goal.returns
returns g c =
    placed_nowhere g.S.AsStr.text c.args.words.now c.loop-word.word-index c.loop-word.is_ended
    c.loop-word-test.false ∙ c.loop-word.invariant
