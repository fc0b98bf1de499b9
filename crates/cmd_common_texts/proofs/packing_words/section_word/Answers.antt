use Rattle.std.proofs.Common.{sym, ap}
use Rattle.sys_text.proofs.Printing.{as_text, printed_none}
use Rattle.cmd_common_texts.specs.Words.{part_word, words_if, words_text}
use Rattle.abt_headers.specs.Places.{section_name}
use Rattle.cmd_common_texts.proofs.packing_words.section_word.Goals as goal

pub returns-in-None : goal.returns-in-None
returns-in-None g c =
    as_text (ap (λ n. words_text
    (words_if (λ name. part_word name c.args.folder.now (section_name c.args.place.kind)) n)) (sym c.in-None.ensures))
    (printed_none _ _ _)
