use Rattle.std.proofs.Common.{rules, ◌++◌}
use Rattle.std.proofs.lemmas.Bool.{not-false}
use Rattle.std.specs.Prelude.{option_map}
use Rattle.words_tools.specs.Fragments.{IsFragmentText, fragments_said, group_said, no_group, of_platform}
use Rattle.words_tools.proofs.Grouping.{fragment_more}
use Rattle.words_tools.proofs.groups.fragment_words.Goals as goal

pub loop-answer-preserved : goal.loop-answer-preserved
loop-answer-preserved c =
    let i = c.loop-answer.invariant in
    let group = c.loop-answer.group in
    fragment_more (λ f text. IsFragmentText f text.now) (of_platform c.args.ramdisk ++ fragments_said no_group
    c.args.said.now) (group_said group.0 (option_map (λ s. s.now) group.1.0)) _ c.args.said.now
    c.loop-answer.answer-index _ c.loop-answer.all.items _ c.loop-answer-test.true c.behind-group.ensures i
    (c.in_ok-push_ended.ensures i.done i.so_far (first_of (
      assumption c.if-not-branch.false,
      search (rules, not-false, c.if-not-branch.false),
    )))
