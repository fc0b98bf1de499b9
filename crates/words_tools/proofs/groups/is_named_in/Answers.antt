use Rattle.std.proofs.Common.{◌∙◌, sym}
use Rattle.words_tools.specs.Fragments.{group_of}
use Rattle.words_tools.proofs.Rejecting.{after_more, ended_in, named_as}
use Rattle.words_tools.proofs.groups.is_named_in.Goals as goal

pub loop-answer-preserved : goal.loop-answer-preserved
loop-answer-preserved c =
    after_more (group_of c.loop-answer.group) _ c.args.said.now c.loop-answer.answer-index _ c.loop-answer-test.true
    c.loop-answer.invariant c.behind-group.ensures

pub returns-then-eq : goal.returns-then-eq
returns-then-eq c = λ _. (
  _,
  (
    ended_in (group_of c.loop-answer.group) c.args.said.now c.loop-answer.answer-index _ c.loop-answer-test.true
        c.loop-answer.invariant (sym c.is_file_word.ensures ∙ c.if-is_file_word.true),
    named_as c.loop-answer.group.name c.args.name (sym c.eq.ensures ∙ c.if-eq.true),
  ),
)
