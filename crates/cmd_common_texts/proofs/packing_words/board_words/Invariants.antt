use Rattle.std.proofs.Common.{take}
use Rattle.sys_text.specs.Printed.{Prints}
use Rattle.cmd_common_texts.specs.Words.{board_words, words_text}
use Rattle.cmd_common_texts.proofs.packing_words.board_words.Given as goal

abbrev pub invariant-loop-place : goal.invariant-loop-place
invariant-loop-place g l = Prints g.O.Output.written g.O.Output.write_faults l.initial.text l.text
    (words_text (board_words l.fn.fragment 0 (take l.place l.fn.board_id)))
