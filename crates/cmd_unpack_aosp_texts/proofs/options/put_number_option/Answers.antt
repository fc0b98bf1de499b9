use Rattle.sys_text.proofs.Printing.{◌▸◌}
use Rattle.cmd_unpack_aosp_texts.proofs.options.put_number_option.Goals as goal

pub returns : goal.returns
returns g c =
    c.put_name.ensures ▸ c.put_number_value.ensures
