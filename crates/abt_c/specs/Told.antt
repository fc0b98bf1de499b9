-- What is reported to C of a boot header or a vendor boot header.
use Rattle.std.specs.Prelude.{◌≡◌, ℕ, zero, suc, List, [], ◌∷◌, length, Result, Ok, Err}
use Rattle.abt_headers.specs.declared.boot.BootHeader.{BootHeader}
use Rattle.abt_headers.specs.declared.fault.HeaderFault.{HeaderFault}
use Rattle.abt_headers.specs.declared.fault.HeaderFault.TheVariants as faults
use Rattle.abt_headers.specs.declared.sections.Section.{Section}
use Rattle.abt_headers.specs.declared.sections.Section.TheVariants.{Kernel, Ramdisk, Second, RecoveryDtbo, Dtb}
use Rattle.abt_headers.specs.declared.sections.Section.TheVariants.{Signature, VendorRamdisk, Table, Bootconfig}
use Rattle.abt_headers.specs.declared.sections.SectionPlace.{SectionPlace}
use Rattle.abt_headers.specs.Boot.{boot_version, boot_page, boot_places, boot_size}
use Rattle.abt_headers.specs.Vendor.{Vendor, vendor_version, vendor_page, vendor_places, vendor_size}
use Rattle.abt_headers.specs.Fault.{header_fault_number}
use Rattle.abt_c.specs.declared.boot_told.AbtBoot.{AbtBoot}
use Rattle.abt_c.specs.declared.boot_told.AbtSection.{AbtSection}

abbrev pub section_number : Section → ℕ
section_number Kernel = 1
section_number Ramdisk = 2
section_number Second = 3
section_number RecoveryDtbo = 4
section_number Dtb = 5
section_number Signature = 6
section_number VendorRamdisk = 7
section_number Table = 8
section_number Bootconfig = 9

abbrev pub section_told : SectionPlace → AbtSection
section_told q = record { kind = section_number q.kind; size = q.size; at = q.at }

abbrev pub no_section : AbtSection
no_section = record { kind = 0; size = 0; at = 0 }

-- section i, and none after the last
abbrev pub section_at : List SectionPlace → ℕ → AbtSection
section_at [] i = no_section
section_at (q ∷ qs) zero = section_told q
section_at (q ∷ qs) (suc i) = section_at qs i

-- the sections, in their order
pub record TellsSections (ps : List SectionPlace) (o : AbtBoot) : Type 0 where
  pub count : o.count ≡ length ps
  pub sections : o.sections
      ≡ section_at ps 0 ∷ section_at ps 1 ∷ section_at ps 2 ∷ section_at ps 3 ∷ section_at ps 4 ∷ []

pub record TellsBoot (h : BootHeader) (o : AbtBoot) : Type 0 where
  pub fault : o.fault ≡ 0
  pub detail : o.detail ≡ 0
  pub reserved : o.reserved ≡ 0
  pub kind : o.kind ≡ 1
  pub version : o.version ≡ boot_version h
  pub page_size : o.page_size ≡ boot_page h
  pub header_size : o.header_size ≡ boot_size h
  pub shows : TellsSections (boot_places h) o

pub record TellsVendor (h : Vendor) (o : AbtBoot) : Type 0 where
  pub fault : o.fault ≡ 0
  pub detail : o.detail ≡ 0
  pub reserved : o.reserved ≡ 0
  pub kind : o.kind ≡ 2
  pub version : o.version ≡ vendor_version h
  pub page_size : o.page_size ≡ vendor_page h
  pub header_size : o.header_size ≡ vendor_size h
  pub shows : TellsSections (vendor_places h) o

-- of a version, a page size and a header that is cut short: their detail
abbrev pub header_detail : HeaderFault → ℕ
header_detail (faults.Version n) = n
header_detail (faults.PageSize n) = n
header_detail (faults.Short need) = need
header_detail f = 0

-- a fault, and 0 in all else
pub record TellsFault (f : HeaderFault) (o : AbtBoot) : Type 0 where
  pub fault : o.fault ≡ header_fault_number f
  pub detail : o.detail ≡ header_detail f
  pub reserved : o.reserved ≡ 0
  pub kind : o.kind ≡ 0
  pub version : o.version ≡ 0
  pub page_size : o.page_size ≡ 0
  pub header_size : o.header_size ≡ 0
  pub shows : TellsSections [] o

-- a boot image; where the magic is not its own, a vendor boot image
abbrev pub InfoIs : Result BootHeader HeaderFault → Result Vendor HeaderFault → AbtBoot → Type 0
InfoIs (Ok h) r o = TellsBoot h o
InfoIs (Err faults.Magic) (Ok v) o = TellsVendor v o
InfoIs (Err faults.Magic) (Err f) o = TellsFault f o
InfoIs (Err f) r o = TellsFault f o
