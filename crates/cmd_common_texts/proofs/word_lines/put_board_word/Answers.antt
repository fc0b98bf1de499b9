use Rattle.sys_text.proofs.Printing.{◌▸◌, as_text}
use Rattle.cmd_common_texts.specs.Words.{board_option}
use Rattle.cmd_common_texts.proofs.WordLists.{one_word}
use Rattle.cmd_common_texts.proofs.word_lines.put_board_word.Goals as goal

pub returns : goal.returns
returns g c = as_text (one_word (board_option c.args.fragment c.args.place c.args.number))
    ((c.word.ensures ▸ c.number.ensures ▸ c.word-2.ensures ▸ c.number-2.ensures ▸ c.word-3.ensures ▸ c.number-3.ensures)
    ▸ c.end_line.ensures)
