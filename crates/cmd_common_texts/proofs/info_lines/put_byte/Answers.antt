use Rattle.std.proofs.Common.{◌≡◌, ◌++◌, ◌∷◌, [], codes, rules}
use Rattle.hex.specs.Hex.{encode_lower}
use Rattle.cmd_common_texts.specs.Info.{escaped}
use Rattle.sys_text.proofs.Printing.{◌▸◌, as_text}
use Rattle.cmd_common_texts.proofs.info_lines.put_byte.Goals as goal

pub returns : goal.returns
returns g c =
    let b = c.args.byte in
    let whole : codes "\\x" ++ encode_lower (b ∷ []) ≡ escaped b = search rules in
    as_text whole (c.word.ensures ▸ as_text c.digits_of.ensures c.put-2.ensures)
