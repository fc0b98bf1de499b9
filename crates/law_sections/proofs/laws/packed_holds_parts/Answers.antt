use Rattle.abt_sections.proofs.BootCanonical.{boot_holds}
use Rattle.abt_sections.proofs.VendorCanonical.{vendor_holds, vendor_fragment}
use Rattle.law_sections.proofs.laws.packed_holds_parts.Goals as goal

pub returns-clause-boot : goal.returns-clause-boot
returns-clause-boot c = boot_holds

pub returns-clause-vendor : goal.returns-clause-vendor
returns-clause-vendor c = vendor_holds

pub returns-clause-fragments : goal.returns-clause-fragments
returns-clause-fragments c = vendor_fragment
