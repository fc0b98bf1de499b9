use Rattle.sys_text.proofs.Printing.{◌▸◌, as_text}
use Rattle.cmd_common_texts.proofs.info_lines.put_id.Goals as goal

pub returns : goal.returns
returns g c = (c.word.ensures ▸ as_text c.digits_of_id.ensures c.put.ensures) ▸ c.end_line.ensures
