use Rattle.std.proofs.Common.{ap, sym}
use Rattle.sys_text.proofs.Printing.{as_text}
use Rattle.cmd_unpack_aosp_texts.specs.Info.{boot_rows}
use Rattle.cmd_unpack_aosp_texts.proofs.info.boot_rows.Goals as goal

pub returns-in-V2 : goal.returns-in-V2
returns-in-V2 g c = as_text (ap boot_rows (sym c.in-V2.is)) c.third_rows.ensures
