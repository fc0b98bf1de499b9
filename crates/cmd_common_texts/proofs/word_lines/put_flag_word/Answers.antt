use Rattle.sys_text.proofs.Printing.{◌▸◌, as_text}
use Rattle.cmd_common_texts.specs.Words.{flag_word}
use Rattle.cmd_common_texts.proofs.WordLists.{one_word}
use Rattle.cmd_common_texts.proofs.word_lines.put_flag_word.Goals as goal

pub returns : goal.returns
returns g c = as_text (one_word (flag_word c.args.name.now)) ((c.word.ensures ▸ c.word-2.ensures) ▸ c.end_line.ensures)
