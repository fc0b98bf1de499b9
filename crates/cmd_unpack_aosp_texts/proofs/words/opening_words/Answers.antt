use Rattle.sys_text.proofs.Printing.{◌▸◌}
use Rattle.cmd_unpack_aosp_texts.proofs.words.opening_words.Goals as goal

pub returns : goal.returns
returns g c =
    c.put_first_word.ensures ▸ c.put_number_value.ensures ▸ c.put_os_options.ensures ▸ c.put_file_option.ensures
    ▸ c.put_file_option-2.ensures
