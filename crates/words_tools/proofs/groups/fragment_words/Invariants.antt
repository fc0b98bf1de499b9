use Rattle.std.proofs.Common.{◌++◌, drop}
use Rattle.std.specs.Prelude.{option_map}
use Rattle.words_tools.specs.Fragments.{IsFragmentText, fragments_said, group_said, no_group, of_platform}
use Rattle.words_tools.proofs.Grouping.{ToldSoFar}
use Rattle.words_tools.proofs.groups.fragment_words.Given as goal

abbrev pub invariant-loop-answer : goal.invariant-loop-answer
invariant-loop-answer l =
    ToldSoFar (λ f text. IsFragmentText f text.now) (of_platform l.ramdisk ++ fragments_said no_group l.said)
    (fragments_said (group_said l.group.0 (option_map (λ s. s.now) l.group.1.0)) (drop l.answer-index l.said))
    l.all.items
