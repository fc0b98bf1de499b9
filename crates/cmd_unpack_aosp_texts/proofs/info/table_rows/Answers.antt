use Rattle.sys_text.proofs.Printing.{◌▸◌}
use Rattle.cmd_unpack_aosp_texts.proofs.info.table_rows.Goals as goal

pub returns : goal.returns
returns g c =
    c.vendor_front_rows.ensures ▸ c.put_decimal_row.ensures ▸ c.word.ensures
