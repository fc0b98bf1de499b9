use Rattle.std.proofs.Common.{◌≡◌, take}
use Rattle.words_tools.specs.Fragments.{group_of, no_group}
use Rattle.words_tools.proofs.Rejecting.{group_after}
use Rattle.words_tools.proofs.groups.is_named_in.Given as goal

abbrev pub invariant-loop-answer : goal.invariant-loop-answer
invariant-loop-answer l =
    group_of l.group ≡ group_after no_group (take l.answer-index l.said)
