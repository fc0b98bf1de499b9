use Rattle.sys_text.proofs.Printing.{◌▸◌, as_text}
use Rattle.cmd_common_texts.proofs.info_lines.put_check.Goals as goal

pub returns : goal.returns
returns g c = (c.word.ensures ▸ as_text c.yes_no.ensures c.word-2.ensures ▸ c.word-3.ensures ▸ as_text
    c.yes_no-2.ensures c.word-4.ensures ▸ c.word-5.ensures
    ▸ as_text c.yes_no-3.ensures c.word-6.ensures ▸ c.word-7.ensures ▸ as_text c.yes_no-4.ensures c.word-8.ensures) ▸
    c.end_line.ensures
