use Rattle.std.proofs.Common.{ap}
use Rattle.std.specs.List.{flat_map}
use Rattle.cmd_common_texts.specs.Info.{escaped}
use Rattle.sys_text.proofs.Printing.{◌▸◌, as_text}
use Rattle.cmd_common_texts.specs.Words.{fragment_option}
use Rattle.cmd_common_texts.proofs.WordLists.{one_word}
use Rattle.cmd_common_texts.proofs.word_lines.put_fragment_word.Goals as goal

pub returns : goal.returns
returns g c = as_text (one_word (fragment_option c.args.index c.args.kind c.args.name.now c.args.folder.now))
    ((c.word.ensures ▸ c.number.ensures ▸ c.word-2.ensures ▸ c.put_escaped_name.ensures ▸ c.word-3.ensures
    ▸ as_text (ap (flat_map escaped) c.as_bytes.ensures.value) c.put_escaped.ensures ▸ c.word-4.ensures ▸
    c.number-2.ensures) ▸ c.end_line.ensures)
