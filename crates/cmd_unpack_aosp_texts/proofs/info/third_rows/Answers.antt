use Rattle.sys_text.proofs.Printing.{◌▸◌}
use Rattle.cmd_unpack_aosp_texts.proofs.info.third_rows.Goals as goal

pub returns : goal.returns
returns g c =
    c.front_rows.ensures ▸ c.dtbo_rows.ensures ▸ c.dtb_rows.ensures
