use Rattle.std.proofs.Common.{codes, sym, ap, ◌∙◌}
use Rattle.abt_headers.specs.Vendor.{vendor_version, vendor_view}
use Rattle.abt_sections.specs.Header.{view_of}
use Rattle.cmd_common_texts.specs.Info.{image_kind_text, kind_line, line}
use Rattle.sys_text.proofs.Printing.{as_text}
use Rattle.cmd_common_texts.proofs.info_lines.put_kind.Goals as goal

pub returns-in-Vendor : goal.returns-in-Vendor
returns-in-Vendor g c =
    let version = ap (λ n. line (kind_line c.args.notation (codes "vendor") n c.page_size-in-Vendor.result))
    c.version-in-Vendor.ensures in
    let page = ap (λ n. line (kind_line c.args.notation (codes "vendor")
    (vendor_version (vendor_view c.in-Vendor.header)) n)) c.page_size-in-Vendor.ensures.value in
    as_text (version ∙ page ∙ sym (ap (λ h. line (image_kind_text c.args.notation (view_of h))) c.in-Vendor.is))
    c.put_numbers-in-Vendor.ensures
