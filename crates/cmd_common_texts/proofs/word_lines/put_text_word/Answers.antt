use Rattle.sys_text.proofs.Printing.{◌▸◌, as_text}
use Rattle.cmd_common_texts.specs.Words.{text_word}
use Rattle.cmd_common_texts.proofs.WordLists.{one_word, then_text}
use Rattle.cmd_common_texts.proofs.word_lines.put_text_word.Goals as goal

pub returns : goal.returns
returns g c = as_text (one_word (text_word c.args.name.now c.args.front.now c.args.back.now))
    ((c.word.ensures ▸ c.word-2.ensures ▸ c.word-3.ensures
    ▸ as_text (then_text c.args.front.now c.args.back.now _ c.rest_of_text.result.now c.front_text.ensures
    c.rest_of_text.ensures) (c.put_escaped.ensures ▸ c.put_escaped-2.ensures))
    ▸ c.end_line.ensures)
