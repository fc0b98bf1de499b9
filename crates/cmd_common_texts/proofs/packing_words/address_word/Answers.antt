use Rattle.std.proofs.Common.{sym, ap, ◌∙◌}
use Rattle.sys_text.proofs.Printing.{as_text, printed_none}
use Rattle.cmd_common_fields.specs.Options.{address_option}
use Rattle.cmd_common_texts.specs.Words.{number_word, words_if, words_text}
use Rattle.cmd_common_texts.proofs.packing_words.address_word.Goals as goal

pub returns-in-None : goal.returns-in-None
returns-in-None g c =
    as_text (ap (λ a. words_text (words_if (number_word (address_option c.args.which)) a)) (sym c.in-None.is
    ∙ c.address_of.ensures.value)) (printed_none _ _ _)
