use Rattle.sys_text.proofs.Printing.{◌▸◌}
use Rattle.cmd_unpack_aosp_texts.proofs.options.put_first_word.Goals as goal

pub returns : goal.returns
returns g c =
    c.word.ensures ▸ c.end_word.ensures
