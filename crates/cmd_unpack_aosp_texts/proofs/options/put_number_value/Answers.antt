use Rattle.sys_text.proofs.Printing.{◌▸◌}
use Rattle.cmd_unpack_aosp_texts.proofs.options.put_number_value.Goals as goal

pub returns : goal.returns
returns g c =
    c.begin_word.ensures ▸ c.number.ensures ▸ c.end_word.ensures
