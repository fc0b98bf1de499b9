use Rattle.std.proofs.Common.{ap}
use Rattle.std.specs.List.{flat_map}
use Rattle.cmd_common_texts.specs.Info.{escaped}
use Rattle.sys_text.proofs.Printing.{◌▸◌, as_text}
use Rattle.cmd_common_texts.specs.Words.{part_word}
use Rattle.cmd_common_texts.proofs.WordLists.{one_word}
use Rattle.cmd_common_texts.proofs.word_lines.put_part_word.Goals as goal

pub returns : goal.returns
returns g c = as_text (one_word (part_word c.args.name.now c.args.folder.now c.args.file.now))
    ((c.word.ensures ▸ c.word-2.ensures ▸ c.word-3.ensures ▸ as_text
    (ap (flat_map escaped) c.as_bytes.ensures.value) c.put_escaped.ensures ▸ c.word-4.ensures ▸ c.word-5.ensures)
    ▸ c.end_line.ensures)
