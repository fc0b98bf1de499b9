use Rattle.std.proofs.Common.{◌∙◌, sym}
use Rattle.words_tools.specs.Fragments.{IsBoardText, board_said, is_board}
use Rattle.words_tools.proofs.Grouping.{told_one}
use Rattle.words_tools.proofs.groups.push_board.Goals as goal

pub returns : goal.returns
returns c = λ done so_far is.
    told_one (λ b text. IsBoardText b text.now) (is_board c.args.said.now) done
    (board_said c.args.fragment c.args.said.now) c.args.all.now.items _ c.in-Some.text
    (sym c.is_board.ensures ∙ c.if-not-is_board.false) c.in-Some.ensures c.in_ok-push.ensures.items so_far
