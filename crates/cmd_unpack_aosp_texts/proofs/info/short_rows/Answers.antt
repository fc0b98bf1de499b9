use Rattle.sys_text.proofs.Printing.{◌▸◌}
use Rattle.cmd_unpack_aosp_texts.proofs.info.short_rows.Goals as goal

pub returns : goal.returns
returns g c =
    c.word.ensures ▸ c.put_decimal_row.ensures ▸ c.put_decimal_row-2.ensures ▸ c.put_os_rows.ensures
    ▸ c.put_decimal_row-3.ensures ▸ c.put_text_row.ensures
