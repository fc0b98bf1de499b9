use Rattle.sys_text.proofs.Printing.{◌▸◌, as_text}
use Rattle.cmd_common_texts.specs.Words.{number_word}
use Rattle.cmd_common_texts.proofs.WordLists.{one_word}
use Rattle.cmd_common_texts.proofs.word_lines.put_number_word.Goals as goal

pub returns : goal.returns
returns g c = as_text (one_word (number_word c.args.name.now c.args.number))
    ((c.word.ensures ▸ c.word-2.ensures ▸ c.word-3.ensures ▸ c.number.ensures) ▸ c.end_line.ensures)
