use Rattle.sys_text.proofs.Printing.{◌▸◌}
use Rattle.cmd_common_listing.proofs.lines.put_chunk.Goals as goal

pub returns : goal.returns
returns g c = (c.number.ensures ▸ c.put_kind.ensures) ▸ c.end_line.ensures
