use Rattle.sys_text.proofs.Printing.{◌▸◌}
use Rattle.cmd_common_texts.proofs.info.address_lines.Goals as goal

pub returns : goal.returns
returns g c = c.address_line.ensures ▸ c.address_line-2.ensures ▸ c.address_line-3.ensures ▸ c.address_line-4.ensures
    ▸ c.address_line-5.ensures
