use Rattle.std.proofs.Common.{ap, sym}
use Rattle.sys_text.proofs.Printing.{as_text, printed_none}
use Rattle.abt_headers.specs.Vendor.{vendor_view}
use Rattle.cmd_unpack_aosp_texts.specs.Info.{vendor_last}
use Rattle.cmd_unpack_aosp_texts.proofs.info.vendor_end.Goals as goal

pub returns-in-V3 : goal.returns-in-V3
returns-in-V3 g c = as_text (ap (λ h. vendor_last (vendor_view h)) (sym c.in-V3.is)) (printed_none _ _ _)
