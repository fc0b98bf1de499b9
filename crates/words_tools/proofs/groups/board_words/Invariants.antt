use Rattle.std.proofs.Common.{drop}
use Rattle.words_tools.specs.Fragments.{IsBoardText, boards_said}
use Rattle.words_tools.proofs.Grouping.{ToldSoFar}
use Rattle.words_tools.proofs.groups.board_words.Given as goal

abbrev pub invariant-loop-answer : goal.invariant-loop-answer
invariant-loop-answer l =
    ToldSoFar (λ b text. IsBoardText b text.now) (boards_said l.first l.said)
    (boards_said l.fragment (drop l.answer-index l.said)) l.all.items
