use Rattle.std.proofs.Common.{ap, sym}
use Rattle.sys_text.proofs.Printing.{as_text, printed_none}
use Rattle.cmd_unpack_aosp_texts.specs.Words.{behind_word}
use Rattle.cmd_unpack_aosp_texts.proofs.options.end_word.Goals as goal

pub returns-in-Blank : goal.returns-in-Blank
returns-in-Blank g c = as_text (ap behind_word (sym c.in-Blank.is)) (printed_none _ _ _)
