use Rattle.std.proofs.Common.{[], codes, sym, ap}
use Rattle.sys_text.proofs.Printing.{as_text, printed_none}
use Rattle.cmd_common_texts.specs.Words.{text_word, words_if, words_text}
use Rattle.cmd_common_texts.proofs.packing_words.name_words.Goals as goal

pub returns-in-None : goal.returns-in-None
returns-in-None g c =
    as_text (ap (λ n. words_text (words_if (λ name. text_word (codes "name") name []) n))
    (sym c.in-None.ensures.value)) (printed_none _ _ _)
