use Rattle.sys_text.proofs.Printing.{◌▸◌}
use Rattle.cmd_common_texts.proofs.info_lines.put_two_digits.Goals as goal

pub returns : goal.returns
returns g c = c.number.ensures ▸ c.number-2.ensures
