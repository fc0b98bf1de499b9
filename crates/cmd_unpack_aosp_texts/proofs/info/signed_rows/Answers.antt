use Rattle.sys_text.proofs.Printing.{◌▸◌}
use Rattle.cmd_unpack_aosp_texts.proofs.info.signed_rows.Goals as goal

pub returns : goal.returns
returns g c =
    c.short_rows.ensures ▸ c.put_decimal_row.ensures
