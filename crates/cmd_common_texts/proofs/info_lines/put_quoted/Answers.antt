use Rattle.std.proofs.Common.{ap}
use Rattle.std.specs.List.{flat_map}
use Rattle.cmd_common_texts.specs.Info.{escaped}
use Rattle.sys_text.proofs.Printing.{◌▸◌, as_text}
use Rattle.cmd_common_texts.proofs.info_lines.put_quoted.Goals as goal

pub returns : goal.returns
returns g c = c.word.ensures ▸ as_text (ap (flat_map escaped) c.front_text.ensures) c.put_escaped.ensures ▸
    c.word-2.ensures
