use Rattle.sys_text.proofs.Printing.{◌▸◌}
use Rattle.cmd_unpack_aosp_texts.proofs.words.short_words.Goals as goal

pub returns : goal.returns
returns g c =
    c.opening_words.ensures ▸ c.put_field_option.ensures
