use Rattle.std.proofs.Common.{◌<◌, length, arith}
use Rattle.cmd_common_boot.proofs.Boards.{fragment_put, no_fragment}
use Rattle.cmd_common_boot.proofs.board_ids.set_board_id.Goals as goal

pub returns-then-i-specs-clause-set : goal.returns-then-i-specs-clause-set
returns-then-i-specs-clause-set c =
    let board = c.args.board in
    no_fragment c.args.specs.now board.fragment board.place board.number
    (λ (h : board.fragment < length c.args.specs.now). omega arith)

pub returns-clause-set : goal.returns-clause-set
returns-clause-set c =
    let board = c.args.board in
    fragment_put c.args.specs.now board.fragment board.place board.number _ c.if-i-specs.false
