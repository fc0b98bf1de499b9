use Rattle.std.proofs.Common.{ap, sym}
use Rattle.abt_headers.specs.Vendor.{vendor_view}
use Rattle.sys_text.proofs.Printing.{as_text}
use Rattle.cmd_unpack_aosp_texts.specs.Info.{vendor_rows}
use Rattle.cmd_unpack_aosp_texts.proofs.info.vendor_rows.Goals as goal

pub returns-in-V3 : goal.returns-in-V3
returns-in-V3 g c = as_text (ap (λ h. vendor_rows (vendor_view h)) (sym c.in-V3.is)) c.vendor_front_rows.ensures

pub returns-in-V4 : goal.returns-in-V4
returns-in-V4 g c = as_text (ap (λ h. vendor_rows (vendor_view h)) (sym c.in-V4.is)) c.table_rows.ensures
