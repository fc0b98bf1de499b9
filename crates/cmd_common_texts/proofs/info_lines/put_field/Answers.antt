use Rattle.sys_text.proofs.Printing.{◌▸◌, as_text}
use Rattle.cmd_common_texts.proofs.info_lines.put_field.Goals as goal

pub returns : goal.returns
returns g c = (as_text c.name.ensures c.word.ensures ▸ c.word-2.ensures ▸ c.put_quoted.ensures) ▸ c.end_line.ensures
