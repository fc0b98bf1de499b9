use Rattle.sys_text.proofs.Printing.{◌▸◌, as_text}
use Rattle.cmd_unpack_aosp_texts.proofs.info.entry_rows.Goals as goal

pub returns : goal.returns
returns g c =
    c.word.ensures ▸ (as_text c.fragment_front.ensures c.word-2.ensures ▸ c.number.ensures) ▸ c.word-3.ensures
    ▸ c.put_decimal_row.ensures ▸ c.put_decimal_row-2.ensures ▸ c.put_short_row.ensures ▸ c.put_text_row.ensures
    ▸ c.word-4.ensures
