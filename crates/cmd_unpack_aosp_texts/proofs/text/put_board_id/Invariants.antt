use Rattle.std.proofs.Common.{take}
use Rattle.sys_text.specs.Printed.{Prints}
use Rattle.cmd_unpack_aosp_texts.specs.Texts.{board_text}
use Rattle.cmd_unpack_aosp_texts.proofs.text.put_board_id.Given as goal

abbrev pub invariant-loop-place : goal.invariant-loop-place
invariant-loop-place g l = Prints g.O.Output.written g.O.Output.write_faults l.initial.text l.text
    (board_text l.fn.which 0 (take l.place l.fn.board_id))
