use Rattle.sys_text.proofs.Printing.{◌▸◌}
use Rattle.cmd_unpack_aosp_texts.proofs.rows.put_label.Goals as goal

pub returns : goal.returns
returns g c =
    c.word.ensures ▸ c.word-2.ensures
