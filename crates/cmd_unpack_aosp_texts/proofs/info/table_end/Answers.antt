use Rattle.sys_text.proofs.Printing.{◌▸◌}
use Rattle.cmd_unpack_aosp_texts.proofs.info.table_end.Goals as goal

pub returns : goal.returns
returns g c =
    c.word.ensures ▸ c.put_decimal_row.ensures
