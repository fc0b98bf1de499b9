use Rattle.sys_text.proofs.Printing.{◌▸◌}
use Rattle.cmd_common_sparse.proofs.fault.put_image.Goals as goal

pub returns : goal.returns
returns g c = c.word.ensures ▸ c.number.ensures
