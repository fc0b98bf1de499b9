use Rattle.sys_text.proofs.Printing.{◌▸◌}
use Rattle.cmd_unpack_aosp_texts.proofs.options.put_board_option.Goals as goal

pub returns : goal.returns
returns g c =
    (c.begin_word.ensures ▸ (c.word.ensures ▸ c.number.ensures) ▸ c.end_word.ensures)
    ▸ c.begin_word-2.ensures ▸ c.put_low.ensures ▸ c.end_word-2.ensures
