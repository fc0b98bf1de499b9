use Rattle.sys_text.proofs.Printing.{◌▸◌, as_text}
use Rattle.cmd_unpack_aosp_texts.proofs.rows.put_high.Goals as goal

pub returns : goal.returns
returns g c =
    c.word.ensures ▸ as_text c.high_digits.ensures c.put.ensures
