use Rattle.sys_text.proofs.Printing.{◌▸◌}
use Rattle.cmd_unpack_aosp_texts.proofs.options.put_high_option.Goals as goal

pub returns : goal.returns
returns g c =
    c.put_name.ensures ▸ c.begin_word.ensures ▸ c.put_high.ensures ▸ c.end_word.ensures
