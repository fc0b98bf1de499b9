-- What is reported to C of a boot header beside its sections.
use Rattle.std.specs.Prelude.{◌≡◌, ℕ, List, [], ◌∷◌, take, drop, replicate, Option, Some, None, Result, Ok, Err}
use Rattle.abt_headers.specs.declared.boot.BootFront.{BootFront}
use Rattle.abt_headers.specs.declared.boot.ShortFront.{ShortFront}
use Rattle.abt_headers.specs.declared.boot.BootHeader.{BootHeader}
use Rattle.abt_headers.specs.declared.boot.BootHeader.TheVariants.{V0, V1, V2, V3, V4}
use Rattle.abt_headers.specs.declared.vendor.VendorFront.{VendorFront}
use Rattle.abt_headers.specs.declared.entry.RamdiskEntry.{RamdiskEntry}
use Rattle.abt_headers.specs.declared.fault.HeaderFault.{HeaderFault}
use Rattle.abt_headers.specs.declared.fault.HeaderFault.TheVariants as faults
use Rattle.abt_headers.specs.declared.os.OsParts.{OsParts}
use Rattle.abt_headers.specs.Fault.{header_fault_number}
use Rattle.abt_headers.specs.Os.{os_parts}
use Rattle.abt_headers.specs.Vendor.{Tail, Vendor}
use Rattle.abt_c.specs.declared.boot_fields.AbtFields.{AbtFields}
use Rattle.abt_c.specs.declared.boot_fields.AbtFragment.{AbtFragment}
use Rattle.abt_c.specs.Told.{header_detail}

abbrev pub parts_told : OsParts → List ℕ
parts_told p = p.a ∷ p.b ∷ p.c ∷ p.year ∷ p.month ∷ []

abbrev pub os_told : ℕ → List ℕ
os_told n = parts_told (os_parts n)

-- no address is reported, as none is of boot 3 and 4, and of bytes that are no header
pub record HasNoAddress (o : AbtFields) : Type 0 where
  pub kernel : o.kernel_addr ≡ 0
  pub ramdisk : o.ramdisk_addr ≡ 0
  pub second : o.second_addr ≡ 0
  pub tags : o.tags_addr ≡ 0
  pub dtb : o.dtb_addr ≡ 0

abbrev pub zeros : ℕ → List ℕ
zeros n = replicate n 0

-- no text is reported, and no id
pub record HasNoText (o : AbtFields) : Type 0 where
  pub id : o.id ≡ zeros 32
  pub name : o.name ≡ zeros 16
  pub cmdline : o.cmdline ≡ zeros 2048
  pub extra : o.extra ≡ zeros 1024

abbrev pub no_os : List ℕ
no_os = 0 ∷ 0 ∷ 0 ∷ 0 ∷ 0 ∷ []

-- what boot 0 to 2 have in common
pub record TellsFront (f : BootFront) (sum : ℕ) (o : AbtFields) : Type 0 where
  pub fault : o.fault ≡ 0
  pub detail : o.detail ≡ 0
  pub reserved : o.reserved ≡ 0
  pub has : o.has ≡ sum
  pub kernel_addr : o.kernel_addr ≡ f.kernel_addr
  pub ramdisk_addr : o.ramdisk_addr ≡ f.ramdisk_addr
  pub second_addr : o.second_addr ≡ f.second_addr
  pub tags_addr : o.tags_addr ≡ f.tags_addr
  pub os : o.os ≡ os_told f.os_version.number
  pub id : o.id ≡ f.id
  pub name : o.name ≡ f.name
  pub cmdline : take 512 o.cmdline ≡ f.cmdline
  pub behind : drop 512 o.cmdline ≡ zeros 1536
  pub extra : o.extra ≡ f.extra_cmdline
  pub fragments : o.fragments ≡ 0

-- what boot 3 and 4 have; they have no address, no id, no name and no second text
pub record TellsShort (f : ShortFront) (o : AbtFields) : Type 0 where
  pub fault : o.fault ≡ 0
  pub detail : o.detail ≡ 0
  pub reserved : o.reserved ≡ 0
  pub has : o.has ≡ 160
  pub os : o.os ≡ os_told f.os_version.number
  pub cmdline : take 1536 o.cmdline ≡ f.cmdline
  pub behind : drop 1536 o.cmdline ≡ zeros 512
  pub fragments : o.fragments ≡ 0
  pub addresses : HasNoAddress o
  pub id : o.id ≡ zeros 32
  pub name : o.name ≡ zeros 16
  pub extra : o.extra ≡ zeros 1024

abbrev pub FieldsOfBoot : BootHeader → AbtFields → Type 0
FieldsOfBoot (V0 f) o = TellsFront f 1007 o × (o.dtb_addr ≡ 0)
FieldsOfBoot (V1 f d) o = TellsFront f 1007 o × (o.dtb_addr ≡ 0)
FieldsOfBoot (V2 f d t) o = TellsFront f 1023 o × (o.dtb_addr ≡ t.dtb_addr)
FieldsOfBoot (V3 f) o = TellsShort f o
FieldsOfBoot (V4 f signature) o = TellsShort f o

pub record TellsVendorFront (f : VendorFront) (o : AbtFields) : Type 0 where
  pub fault : o.fault ≡ 0
  pub detail : o.detail ≡ 0
  pub reserved : o.reserved ≡ 0
  pub second_addr : o.second_addr ≡ 0
  pub os : o.os ≡ no_os
  pub has : o.has ≡ 219
  pub kernel_addr : o.kernel_addr ≡ f.kernel_addr
  pub ramdisk_addr : o.ramdisk_addr ≡ f.ramdisk_addr
  pub tags_addr : o.tags_addr ≡ f.tags_addr
  pub dtb_addr : o.dtb_addr ≡ f.dtb_addr
  pub name : o.name ≡ f.name
  pub cmdline : o.cmdline ≡ f.cmdline
  pub id : o.id ≡ zeros 32
  pub extra : o.extra ≡ zeros 1024

-- only version 4 has fragments
abbrev pub fragments_of : Option Tail → ℕ
fragments_of None = 0
fragments_of (Some t) = t.entry_num

abbrev pub FieldsOfVendor : Vendor → AbtFields → Type 0
FieldsOfVendor v o = TellsVendorFront v.front o × (o.fragments ≡ fragments_of v.tail)

-- a fault, and 0 in all else
pub record Lacks (f : HeaderFault) (o : AbtFields) : Type 0 where
  pub fault : o.fault ≡ header_fault_number f
  pub detail : o.detail ≡ header_detail f
  pub reserved : o.reserved ≡ 0
  pub has : o.has ≡ 0
  pub fragments : o.fragments ≡ 0
  pub addresses : HasNoAddress o
  pub os : o.os ≡ no_os
  pub texts : HasNoText o

-- a boot image; where the magic is not its own, a vendor boot image
abbrev pub FieldsAre : Result BootHeader HeaderFault → Result Vendor HeaderFault → AbtFields → Type 0
FieldsAre (Ok h) r o = FieldsOfBoot h o
FieldsAre (Err faults.Magic) (Ok v) o = FieldsOfVendor v o
FieldsAre (Err faults.Magic) (Err f) o = Lacks f o
FieldsAre (Err f) r o = Lacks f o

abbrev pub fragment_told : RamdiskEntry → AbtFragment
fragment_told e = record {
  size = e.ramdisk_size;
  at = e.ramdisk_offset;
  kind = e.ramdisk_type;
  name = e.name;
  board_id = e.board_id;
}
