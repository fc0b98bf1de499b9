use Rattle.sys_text.proofs.Printing.{◌▸◌}
use Rattle.cmd_common_texts.proofs.info_lines.put_numbers.Goals as goal

pub returns : goal.returns
returns g c = (c.word.ensures ▸ c.word-2.ensures ▸ c.word-3.ensures ▸ c.number.ensures ▸ c.word-4.ensures ▸
    c.put_number.ensures) ▸ c.end_line.ensures
