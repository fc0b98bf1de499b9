use Rattle.sys_text.proofs.Printing.{◌▸◌}
use Rattle.cmd_unpack_aosp_texts.proofs.options.put_value.Goals as goal

pub returns : goal.returns
returns g c = c.begin_word.ensures ▸ c.put_text.ensures ▸ c.end_word.ensures
