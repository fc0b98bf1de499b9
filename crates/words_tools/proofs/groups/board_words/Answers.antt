use Rattle.std.proofs.Common.{rules}
use Rattle.std.proofs.lemmas.Bool.{not-false}
use Rattle.words_tools.specs.Fragments.{IsBoardText, boards_said}
use Rattle.words_tools.proofs.Grouping.{board_more}
use Rattle.words_tools.proofs.groups.board_words.Goals as goal

pub loop-answer-preserved : goal.loop-answer-preserved
loop-answer-preserved c =
    let i = c.loop-answer.invariant in
    board_more (λ b text. IsBoardText b text.now) (boards_said c.args.first c.args.said.now) c.loop-answer.fragment _
    c.args.said.now c.loop-answer.answer-index _ c.loop-answer.all.items _ c.loop-answer-test.true c.in-Some.ensures i
    (c.in_ok-push_board.ensures i.done i.so_far (first_of (
      assumption c.if-not-branch.false,
      search (rules, not-false, c.if-not-branch.false),
    )))
