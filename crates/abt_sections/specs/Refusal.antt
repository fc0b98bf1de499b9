-- What packing refuses before it writes: the first fault in order.
use Rattle.std.specs.Prelude.{◌≡◌, ℕ, Result, MatchResult, ◌&&◌, ◌||◌, nat_lt, not, if◌then◌else◌, List}
use Rattle.std.specs.Prelude.{[], ◌∷◌, ◌==◌, Option, Some, None, is_some}
use Rattle.abt_headers.specs.declared.fault.HeaderFault.TheVariants as header
use Rattle.abt_headers.specs.declared.sections.Section.{Section}
use Rattle.abt_headers.specs.declared.sections.Section.TheVariants.{Kernel, Ramdisk, Second, RecoveryDtbo, Dtb}
use Rattle.abt_headers.specs.declared.sections.Section.TheVariants.{Signature, VendorRamdisk, Table, Bootconfig}
use Rattle.abt_headers.specs.Page.{page_from}
use Rattle.abt_sections.specs.declared.fault.SectionFault.{SectionFault}
use Rattle.abt_sections.specs.declared.fault.SectionFault.TheVariants as faults
use Rattle.abt_sections.specs.Cause.{full_handed}
use Rattle.abt_sections.specs.Fields.{BootFields, VendorFields, is_text}

-- the sections of a boot image, in order
abbrev pub boot_names : ℕ → List Section
boot_names version =
    if version == 0 then Kernel ∷ Ramdisk ∷ Second ∷ []
    else if version == 1 then Kernel ∷ Ramdisk ∷ Second ∷ RecoveryDtbo ∷ []
    else if version == 2 then Kernel ∷ Ramdisk ∷ Second ∷ RecoveryDtbo ∷ Dtb ∷ []
    else if version == 3 then Kernel ∷ Ramdisk ∷ []
    else Kernel ∷ Ramdisk ∷ Signature ∷ []

-- and of a vendor boot image; version 3 has the first two
abbrev pub vendor_names : List Section
vendor_names = VendorRamdisk ∷ Dtb ∷ Table ∷ Bootconfig ∷ []

-- what the fields alone are refused for
unfoldable pub boot_refusal : BootFields → Option SectionFault
boot_refusal s =
    if nat_lt 4 s.version then Some (faults.Header (header.Version s.version))
    else if nat_lt s.version 3 && not (is_some (page_from s.page)) then Some (faults.Header (header.PageSize s.page))
    else if nat_lt s.version 3 && not (is_text 15 s.name) then Some faults.Name
    else if not (is_text 1535 s.cmdline) then Some faults.CommandLine
    else None

unfoldable pub vendor_refusal : VendorFields → Option SectionFault
vendor_refusal s =
    if nat_lt s.version 3 || nat_lt 4 s.version then Some (faults.Header (header.Version s.version))
    else if not (is_some (page_from s.page)) then Some (faults.Header (header.PageSize s.page))
    else if not (is_text 15 s.name) then Some faults.Name
    else if not (is_text 2047 s.cmdline) then Some faults.CommandLine
    else None

-- the first section of more than 2^32 - 1 bytes
unfoldable pub size_refusal : List Section → List ℕ → Option SectionFault
size_refusal names [] = None
size_refusal [] (n ∷ sizes) = None
size_refusal (name ∷ names) (n ∷ sizes) =
    if nat_lt 4294967295 n then Some (faults.SectionTooLarge name) else size_refusal names sizes

abbrev pub or_else : Option SectionFault → Option SectionFault → Option SectionFault
or_else (Some f) o = Some f
or_else None o = o

-- of fields and parts of these sizes
abbrev pub pack_boot_refusal : BootFields → List ℕ → Option SectionFault
pack_boot_refusal s sizes = or_else (boot_refusal s) (size_refusal (boot_names s.version) sizes)

abbrev pub pack_vendor_refusal : VendorFields → List ℕ → Option SectionFault
pack_vendor_refusal s sizes = or_else (vendor_refusal s) (size_refusal vendor_names sizes)

-- where there is a refusal, P of it
abbrev pub IfRefused : Option SectionFault → (SectionFault → Type 0) → Type 0
IfRefused None P = Unit {0}
IfRefused (Some f) P = P f

-- A call is refused where there is a refusal, and by it; else its result is what P says. No fault says that a device is
-- full.
pub record RefusedBy {X : Type 0} (r : Result X SectionFault) (refusal : Option SectionFault) (P : X → Type 0)
    : Type 0 where
  pub value : MatchResult r (λ x. (refusal ≡ None) × P x) (λ f. refusal ≡ Some f)
  pub failed : full_handed r ≡ 0
