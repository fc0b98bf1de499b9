use Rattle.std.proofs.Common.{◌≡◌, length, rules, ap, sym, ◌∙◌}
use Rattle.sys_text.proofs.Printing.{◌▸◌, as_text}
use Rattle.cmd_common_texts.specs.Info.{number_text}
use Rattle.cmd_common_texts.proofs.Digits.{to_the_end}
use Rattle.cmd_common_texts.proofs.info_lines.put_number.Goals as goal

pub returns-in-Hexadecimal : goal.returns-in-Hexadecimal
returns-in-Hexadecimal g c =
    let laid = c.put_hexadecimal-first in
    let long : length laid.new.room ≡ 64 = search rules in
    as_text (ap (λ o. number_text o c.args.number) (sym c.in-Hexadecimal.is))
    (c.word.ensures ▸ as_text (to_the_end laid.new.room laid.result long ∙ laid.ensures.digits) c.put.ensures)
