use Rattle.std.proofs.Common.{sym, ap}
use Rattle.sys_text.proofs.Printing.{as_text, printed_none}
use Rattle.cmd_common_texts.specs.Words.{os_option, words_if, words_text}
use Rattle.cmd_common_texts.proofs.packing_words.os_words.Goals as goal

pub returns-in-None : goal.returns-in-None
returns-in-None g c = as_text (ap (λ n. words_text (words_if os_option n)) (sym c.in-None.ensures)) (printed_none _ _ _)
