use Rattle.std.proofs.Common.{ap, sym}
use Rattle.cmd_common_texts.specs.Info.{field_text, line_if}
use Rattle.sys_text.proofs.Printing.{as_text, printed_none}
use Rattle.cmd_common_texts.proofs.info.text_line.Goals as goal

pub returns-in-None : goal.returns-in-None
returns-in-None g c = as_text (ap (line_if (field_text c.args.which)) (sym c.in-None.ensures.value))
    (printed_none _ _ _)
