use Rattle.sys_text.proofs.Printing.{◌▸◌}
use Rattle.cmd_unpack_aosp_texts.proofs.info.dtb_rows.Goals as goal

pub returns : goal.returns
returns g c =
    c.put_decimal_row.ensures ▸ c.put_high_row.ensures
