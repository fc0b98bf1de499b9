use Rattle.std.proofs.Common.{ap, sym}
use Rattle.sys_text.proofs.Printing.{as_text, printed_none}
use Rattle.cmd_unpack_aosp_texts.specs.Words.{before_word}
use Rattle.cmd_unpack_aosp_texts.proofs.options.begin_word.Goals as goal

pub returns-in-Zero : goal.returns-in-Zero
returns-in-Zero g c = as_text (ap before_word (sym c.in-Zero.is)) (printed_none _ _ _)
