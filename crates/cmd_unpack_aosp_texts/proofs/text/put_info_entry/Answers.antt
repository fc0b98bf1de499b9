use Rattle.sys_text.proofs.Printing.{◌▸◌}
use Rattle.cmd_unpack_aosp_texts.proofs.text.put_info_entry.Goals as goal

pub returns : goal.returns
returns g c = c.entry_rows.ensures ▸ c.put_board_id.ensures ▸ c.entry_end.ensures
