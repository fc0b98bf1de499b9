use Rattle.std.proofs.Common.{◌≡◌, ◌++◌, ap, codes, decimal, rules, arith}
use Rattle.abt_headers.specs.Os.{os_parts}
use Rattle.sys_text.proofs.Printing.{◌▸◌, as_text}
use Rattle.cmd_common_texts.specs.Words.{os_option, os_text}
use Rattle.cmd_common_texts.proofs.WordLists.{one_word}
use Rattle.cmd_common_texts.proofs.word_lines.put_os_word.Goals as goal

pub returns-then-month-lt1 : goal.returns-then-month-lt1
returns-then-month-lt1 g c =
    let n = c.args.os.number in
    let whole : codes "--os-number=" ++ decimal n ≡ os_option n = search (rules, arith) in
    as_text (one_word (os_option n))
    (as_text whole (c.word.ensures ▸ as_text (ap decimal c.raw.ensures) c.number.ensures) ▸ c.end_line.ensures)

pub returns : goal.returns
returns g c =
    let n = c.args.os.number in
    let whole : codes "--os=" ++ os_text (os_parts n) ≡ os_option n = search (rules, arith) in
    as_text (one_word (os_option n))
    (as_text whole (c.word-2.ensures ▸ as_text (ap os_text c.parts-parts.ensures.value) c.put_os_parts.ensures)
    ▸ c.end_line-2.ensures)
