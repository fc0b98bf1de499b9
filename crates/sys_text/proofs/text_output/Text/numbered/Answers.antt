use Rattle.sys_text.proofs.Printing.{◌▸◌}
use Rattle.sys_text.proofs.text_output.Text.numbered.Goals as goal

pub returns : goal.returns
returns g c = (_, c.number.ensures ▸ c.put.ensures)
