use Rattle.sys_text.proofs.Printing.{◌▸◌, as_text}
use Rattle.cmd_unpack_aosp_texts.proofs.Quoting.{word_escaped}
use Rattle.cmd_unpack_aosp_texts.proofs.shell.Word.put_between.Goals as goal

pub returns : goal.returns
returns g c =
    let w = c.args.self.now in
    c.word.ensures ▸ as_text (word_escaped w.front.now w.middle.now w.back.now w.end.now)
    (c.put_inside.ensures ▸ c.put_inside-2.ensures ▸ c.put_inside-3.ensures ▸ c.put_inside-4.ensures)
    ▸ c.word-2.ensures
