use Rattle.sys_text.proofs.Printing.{◌▸◌}
use Rattle.cmd_unpack_aosp_texts.proofs.rows.put_version.Goals as goal

pub returns : goal.returns
returns g c =
    c.number.ensures ▸ c.word.ensures ▸ c.number-2.ensures ▸ c.word-2.ensures ▸ c.number-3.ensures
