use Rattle.sys_text.proofs.Printing.{◌▸◌}
use Rattle.cmd_common_texts.proofs.info_lines.put_fragment.Goals as goal

pub returns : goal.returns
returns g c = (c.word.ensures ▸ c.number.ensures ▸ c.word-2.ensures ▸ c.put_number.ensures ▸ c.word-3.ensures ▸
    c.put_number-2.ensures ▸ c.word-4.ensures
    ▸ c.number-2.ensures ▸ c.word-5.ensures ▸ c.put_quoted.ensures) ▸ c.end_line.ensures
