use Rattle.sys_text.proofs.Printing.{◌▸◌, as_text}
use Rattle.cmd_common_texts.proofs.info_lines.put_section.Goals as goal

pub returns : goal.returns
returns g c = (c.word.ensures ▸ as_text c.name.ensures c.word-2.ensures ▸ c.word-3.ensures ▸ c.put_number.ensures ▸
    c.word-4.ensures ▸ c.put_number-2.ensures) ▸ c.end_line.ensures
