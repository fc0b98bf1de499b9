-- Of which faults a refusal is told of no output.
use Rattle.std.proofs.Common.{◌≡◌, ℕ, sym, ◌∙◌, ap}
use Rattle.abt_headers.specs.declared.fault.HeaderFault.{HeaderFault}
use Rattle.abt_headers.specs.declared.fault.HeaderFault.TheVariants as headers
use Rattle.abt_sections.specs.Cause.{OpenCause}
use Rattle.abt_sections.specs.declared.fault.SectionFault.{SectionFault}
use Rattle.abt_sections.specs.declared.fault.SectionFault.TheVariants as sections
use Rattle.sys_refusals.specs.declared.told.Side.TheVariants as sides
use Rattle.sys_refusals.proofs.Blames.{input≢output, words≢output}
use Rattle.cmd_common_boot.specs.Fault.{boot_side_of}
use Rattle.cmd_common_boot.specs.declared.fault.BootCommandFault.{BootCommandFault}
use Rattle.cmd_common_boot.specs.declared.fault.BootCommandFault.TheVariants as faults

header_side : (f : HeaderFault) → boot_side_of (faults.Section (sections.Header f)) ≡ sides.Output → ⊥
header_side headers.Magic on = input≢output on
header_side (headers.Version n) on = input≢output on
header_side (headers.PageSize n) on = input≢output on
header_side headers.Table on = input≢output on
header_side (headers.Short need) on = input≢output on
header_side headers.Os on = words≢output on

-- what cannot be opened is what is read
pub open_side : (f : SectionFault) (fault : BootCommandFault) (r r' : ℕ) (changed : Type 0)
    → fault ≡ faults.Section f → OpenCause f r r' changed → boot_side_of fault ≡ sides.Output → ⊥
open_side (sections.Read f) fault r r' changed is cause on = input≢output (sym (ap boot_side_of is) ∙ on)
open_side (sections.Write f) fault r r' changed is cause on = absurd cause
open_side sections.SourceChanged fault r r' changed is cause on = input≢output (sym (ap boot_side_of is) ∙ on)
open_side (sections.Header f) fault r r' changed is cause on = header_side f (sym (ap boot_side_of is) ∙ on)
open_side (sections.Entry i) fault r r' changed is cause on = input≢output (sym (ap boot_side_of is) ∙ on)
open_side sections.Name fault r r' changed is cause on = absurd cause
open_side sections.CommandLine fault r r' changed is cause on = absurd cause
open_side (sections.SectionTruncated s) fault r r' changed is cause on = input≢output (sym (ap boot_side_of is) ∙ on)
open_side (sections.SectionTooLarge s) fault r r' changed is cause on = absurd cause
