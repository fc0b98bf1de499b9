use Rattle.sys_text.proofs.Printing.{◌▸◌}
use Rattle.cmd_common_texts.proofs.info.header_lines.Goals as goal

pub returns : goal.returns
returns g c = c.address_lines.ensures ▸ c.os_line.ensures ▸ c.text_line.ensures ▸ c.text_line-2.ensures ▸
    c.text_line-3.ensures ▸ c.id_line.ensures
