use Rattle.std.proofs.Common.{ap, sym}
use Rattle.sys_text.proofs.Printing.{as_text, printed_none}
use Rattle.cmd_unpack_aosp_texts.specs.Words.{behind_words}
use Rattle.cmd_unpack_aosp_texts.proofs.options.end_words.Goals as goal

pub returns-in-Zero : goal.returns-in-Zero
returns-in-Zero g c = as_text (ap behind_words (sym c.in-Zero.is)) (printed_none _ _ _)
