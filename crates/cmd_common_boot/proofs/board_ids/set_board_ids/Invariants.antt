use Rattle.std.proofs.Common.{◌≡◌, length, map, take}
use Rattle.cmd_common_boot.specs.Boards.{AreSet}
use Rattle.cmd_common_boot.proofs.board_ids.set_board_ids.Given as goal

abbrev pub invariant-loop-word : goal.invariant-loop-word
invariant-loop-word l = record {
  same : length l.specs ≡ length l.initial.specs;
  set : AreSet (map (λ w. w.now) (take l.word-index l.words)) l.initial.specs l.specs;
}
