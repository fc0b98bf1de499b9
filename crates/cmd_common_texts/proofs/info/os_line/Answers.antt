use Rattle.std.proofs.Common.{ap, sym}
use Rattle.abt_headers.specs.Os.{os_parts}
use Rattle.cmd_common_texts.specs.Info.{line_if, os_info}
use Rattle.sys_text.proofs.Printing.{as_text, printed_none}
use Rattle.cmd_common_texts.proofs.info.os_line.Goals as goal

pub returns-in-None : goal.returns-in-None
returns-in-None g c = as_text (ap (line_if (λ n. os_info c.args.notation (os_parts n))) (sym c.in-None.ensures))
    (printed_none _ _ _)
