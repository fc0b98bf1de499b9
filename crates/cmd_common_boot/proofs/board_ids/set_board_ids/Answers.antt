use Rattle.std.proofs.Common.{rules}
use Rattle.cmd_common_boot.proofs.Boards.{more_set}
use Rattle.cmd_common_boot.proofs.board_ids.set_board_ids.Goals as goal

pub loop-word-preserved : goal.loop-word-preserved
loop-word-preserved c = record {
  same = search rules;
  set = more_set _ c.args.words.now c.loop-word.word-index _ _ _ _ c.loop-word-test.true c.loop-word.invariant.set
      (c.set_by_word.ensures.set (search rules));
}
