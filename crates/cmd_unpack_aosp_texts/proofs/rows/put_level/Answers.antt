use Rattle.sys_text.proofs.Printing.{◌▸◌}
use Rattle.cmd_unpack_aosp_texts.proofs.rows.put_level.Goals as goal

pub returns : goal.returns
returns g c =
    c.number.ensures ▸ c.word.ensures ▸ c.put_two_digits.ensures
