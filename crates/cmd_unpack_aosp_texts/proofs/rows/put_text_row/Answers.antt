use Rattle.sys_text.proofs.Printing.{◌▸◌, as_text}
use Rattle.cmd_unpack_aosp_texts.proofs.rows.put_text_row.Goals as goal

pub returns : goal.returns
returns g c =
    c.put_label.ensures ▸ as_text c.front_text.ensures c.put.ensures ▸ c.end_line.ensures
