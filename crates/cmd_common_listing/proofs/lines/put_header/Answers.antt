use Rattle.std.proofs.Common.{ap, ◌∙◌}
use Rattle.hex.specs.Hex.{encode_lower}
use Rattle.sys_text.proofs.Printing.{◌▸◌, as_text}
use Rattle.cmd_common_listing.proofs.lines.put_header.Goals as goal

pub returns : goal.returns
returns g c = (c.word.ensures ▸ c.number.ensures ▸ c.word-2.ensures ▸ c.number-2.ensures ▸ c.word-3.ensures ▸
    c.number-3.ensures ▸ c.word-4.ensures
    ▸ c.number-4.ensures ▸ c.word-5.ensures ▸ c.number-5.ensures ▸ c.word-6.ensures ▸ c.number-6.ensures ▸
    c.word-7.ensures ▸ as_text (c.digits_of.ensures ∙ ap encode_lower c.to_be_bytes.ensures) c.put.ensures) ▸
    c.end_line.ensures
