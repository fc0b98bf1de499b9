use Rattle.sys_text.proofs.Printing.{◌▸◌}
use Rattle.cmd_unpack_aosp_texts.proofs.options.put_os_options.Goals as goal

pub returns : goal.returns
returns g c =
    c.put_version_option.ensures ▸ c.put_level_option.ensures
