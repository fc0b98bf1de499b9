use Rattle.std.proofs.Common.{rules}
use Rattle.sys_text.proofs.Printing.{as_text, printed_none}
use Rattle.cmd_unpack_aosp_texts.proofs.words.board_word.Goals as goal

pub returns-then-number-eq0 : goal.returns-then-number-eq0
returns-then-number-eq0 g c = as_text (search rules) (printed_none _ _ _)
