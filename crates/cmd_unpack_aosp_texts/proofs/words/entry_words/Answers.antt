use Rattle.sys_text.proofs.Printing.{◌▸◌}
use Rattle.cmd_unpack_aosp_texts.proofs.words.entry_words.Goals as goal

pub returns : goal.returns
returns g c =
    c.put_number_option.ensures ▸ c.put_field_option.ensures
