use Rattle.sys_text.proofs.Printing.{◌▸◌}
use Rattle.cmd_unpack_aosp_texts.proofs.shell.Word.put.Goals as goal

pub returns : goal.returns
returns g c =
    c.put.ensures ▸ c.put-2.ensures ▸ c.put-3.ensures ▸ c.put-4.ensures
