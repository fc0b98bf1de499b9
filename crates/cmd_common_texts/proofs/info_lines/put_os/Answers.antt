use Rattle.std.proofs.Common.{ap, decimal}
use Rattle.cmd_common_texts.specs.Info.{two_digits}
use Rattle.sys_text.proofs.Printing.{◌▸◌, as_text}
use Rattle.cmd_common_texts.proofs.info_lines.put_os.Goals as goal

pub returns : goal.returns
returns g c =
    let p = c.parts-parts.ensures.value in
    (c.word.ensures ▸ as_text (ap (λ x. decimal x.a) p) c.number.ensures ▸ c.word-2.ensures ▸ as_text
    (ap (λ x. decimal x.b) p) c.number-2.ensures ▸ c.word-3.ensures
    ▸ as_text (ap (λ x. decimal x.c) p) c.number-3.ensures ▸ as_text c.mark_behind_version.ensures c.word-4.ensures ▸
    as_text (ap (λ x. decimal x.year) p) c.number-4.ensures ▸ c.word-5.ensures
    ▸ as_text (ap (λ x. two_digits x.month) p) c.put_two_digits.ensures) ▸ c.end_line.ensures
