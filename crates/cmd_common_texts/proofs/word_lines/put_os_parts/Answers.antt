use Rattle.sys_text.proofs.Printing.{◌▸◌}
use Rattle.cmd_common_texts.proofs.word_lines.put_os_parts.Goals as goal

pub returns : goal.returns
returns g c = c.number.ensures ▸ c.word.ensures ▸ c.number-2.ensures ▸ c.word-2.ensures ▸ c.number-3.ensures
    ▸ c.word-3.ensures ▸ c.number-4.ensures ▸ c.word-4.ensures ▸ c.put_two_digits.ensures
