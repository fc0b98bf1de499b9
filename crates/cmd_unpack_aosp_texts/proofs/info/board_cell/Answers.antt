use Rattle.sys_text.proofs.Printing.{◌▸◌, as_text}
use Rattle.cmd_unpack_aosp_texts.proofs.info.board_cell.Goals as goal

pub returns : goal.returns
returns g c =
    as_text c.before_cell.ensures c.word.ensures ▸ c.put_low.ensures ▸ as_text c.behind_cell.ensures c.word-2.ensures
