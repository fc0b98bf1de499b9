use Rattle.sys_text.proofs.Printing.{◌▸◌}
use Rattle.cmd_unpack_aosp_texts.proofs.rows.put_decimal_row.Goals as goal

pub returns : goal.returns
returns g c =
    c.put_label.ensures ▸ c.number.ensures ▸ c.end_line.ensures
