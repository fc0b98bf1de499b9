use Rattle.std.proofs.Common.{ap, ◌∙◌, sym}
use Rattle.cmd_common_texts.specs.Info.{address_text, line_if}
use Rattle.sys_text.proofs.Printing.{as_text, printed_none}
use Rattle.cmd_common_texts.proofs.info.address_line.Goals as goal

pub returns-in-None : goal.returns-in-None
returns-in-None g c =
    as_text (ap (line_if (address_text c.args.notation c.args.which)) (sym c.in-None.is ∙ c.address_of.ensures.value))
    (printed_none _ _ _)
