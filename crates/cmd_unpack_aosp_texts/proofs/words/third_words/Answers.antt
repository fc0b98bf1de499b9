use Rattle.sys_text.proofs.Printing.{◌▸◌}
use Rattle.cmd_unpack_aosp_texts.proofs.words.third_words.Goals as goal

pub returns : goal.returns
returns g c =
    c.opening_words.ensures ▸ c.part_option.ensures ▸ c.dtbo_option.ensures ▸ c.part_option-2.ensures
    ▸ c.load_words.ensures ▸ c.put_high_option.ensures ▸ c.name_words.ensures
