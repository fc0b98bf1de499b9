use Rattle.sys_text.proofs.Printing.{◌▸◌}
use Rattle.cmd_unpack_aosp_texts.proofs.options.put_low_option.Goals as goal

pub returns : goal.returns
returns g c =
    c.put_name.ensures ▸ c.begin_word.ensures ▸ c.put_low.ensures ▸ c.end_word.ensures
