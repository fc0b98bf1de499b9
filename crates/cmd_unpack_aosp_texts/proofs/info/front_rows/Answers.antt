use Rattle.std.proofs.Common.{ap, codes}
use Rattle.sys_text.proofs.Printing.{◌▸◌, as_text}
use Rattle.cmd_unpack_aosp_texts.specs.Info.{decimal_row}
use Rattle.cmd_unpack_aosp_texts.proofs.info.front_rows.Goals as goal

pub returns : goal.returns
returns g c =
    c.word.ensures ▸ c.put_decimal_row.ensures ▸ c.put_low_row.ensures ▸ c.put_decimal_row-2.ensures
    ▸ c.put_low_row-2.ensures ▸ c.put_decimal_row-3.ensures ▸ c.put_low_row-3.ensures ▸ c.put_low_row-4.ensures
    ▸ as_text (ap (decimal_row (codes "page size")) c.bytes.ensures.value) c.put_decimal_row-4.ensures
    ▸ c.put_os_rows.ensures ▸ c.put_decimal_row-5.ensures ▸ c.put_text_row.ensures ▸ c.put_text_row-2.ensures
    ▸ c.put_text_row-3.ensures
