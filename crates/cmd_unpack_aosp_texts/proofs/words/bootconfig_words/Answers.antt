use Rattle.sys_text.proofs.Printing.{◌▸◌}
use Rattle.cmd_unpack_aosp_texts.proofs.words.bootconfig_words.Goals as goal

pub returns : goal.returns
returns g c =
    c.vendor_front_words.ensures ▸ c.put_file_option.ensures
