-- The boot header (`boot_img_hdr_v0` to `boot_img_hdr_v4` of AOSP's `bootimg.h`): its bytes, what reading them gives,
-- and the sections after it.
use Rattle.std.specs.Prelude.{ℕ, ◌==◌, not, if◌then◌else◌, List, [], ◌∷◌, ◌++◌, Result, Ok, Err}
use Rattle.byteorder.specs.Endian.{little_bytes}
use Rattle.abt_headers.specs.declared.fault.HeaderFault.{HeaderFault}
use Rattle.abt_headers.specs.declared.fault.HeaderFault.TheVariants as faults
use Rattle.abt_headers.specs.declared.page.PageSize.{PageSize}
use Rattle.abt_headers.specs.declared.boot.BootFront.{BootFront}
use Rattle.abt_headers.specs.declared.boot.DtboFields.{DtboFields}
use Rattle.abt_headers.specs.declared.boot.DtbFields.{DtbFields}
use Rattle.abt_headers.specs.declared.boot.ShortFront.{ShortFront}
use Rattle.abt_headers.specs.declared.boot.BootHeader.{BootHeader}
use Rattle.abt_headers.specs.declared.boot.BootHeader.TheVariants.{V0, V1, V2, V3, V4}
use Rattle.abt_headers.specs.declared.sections.Section.{Section}
use Rattle.abt_headers.specs.declared.sections.Section.TheVariants.{Kernel, Ramdisk, Second, RecoveryDtbo, Dtb}
use Rattle.abt_headers.specs.declared.sections.Section.TheVariants.{Signature}
use Rattle.abt_headers.specs.declared.sections.SectionPlace.{SectionPlace}
use Rattle.abt_headers.specs.Fault.{needing, mapped}
use Rattle.abt_headers.specs.Field.{number_at, part_at, joined_fields}
use Rattle.abt_headers.specs.Page.{page_bytes, page_at, pages}
use Rattle.abt_headers.specs.Places.{places_from}

-- ---- the record: the fields' bytes in their order, joined

-- `ANDROID!`
abbrev pub boot_magic : List ℕ
boot_magic = 0x41 ∷ 0x4e ∷ 0x44 ∷ 0x52 ∷ 0x4f ∷ 0x49 ∷ 0x44 ∷ 0x21 ∷ []

-- versions 0 to 2, bytes 0 to 47
abbrev pub front_numbers : ℕ → BootFront → List (List ℕ)
front_numbers version f = boot_magic
    ∷ little_bytes 4 f.kernel_size ∷ little_bytes 4 f.kernel_addr
    ∷ little_bytes 4 f.ramdisk_size ∷ little_bytes 4 f.ramdisk_addr
    ∷ little_bytes 4 f.second_size ∷ little_bytes 4 f.second_addr
    ∷ little_bytes 4 f.tags_addr ∷ little_bytes 4 (page_bytes f.page_size)
    ∷ little_bytes 4 version ∷ little_bytes 4 f.os_version.number ∷ []

-- versions 0 to 2, bytes 0 to 1,631
abbrev pub front_fields : ℕ → BootFront → List (List ℕ)
front_fields version f = front_numbers version f ++ (f.name ∷ f.cmdline ∷ f.id ∷ f.extra_cmdline ∷ [])

-- versions 1 and 2, bytes 1,632 to 1,647
abbrev pub dtbo_fields : DtboFields → List (List ℕ)
dtbo_fields d =
    little_bytes 4 d.recovery_dtbo_size ∷ little_bytes 8 d.recovery_dtbo_offset ∷ little_bytes 4 d.header_size ∷ []

-- version 2, bytes 1,648 to 1,659
abbrev pub dtb_fields : DtbFields → List (List ℕ)
dtb_fields d = little_bytes 4 d.dtb_size ∷ little_bytes 8 d.dtb_addr ∷ []

-- versions 3 and 4, bytes 0 to 23
abbrev pub short_numbers : ShortFront → List (List ℕ)
short_numbers f = boot_magic
    ∷ little_bytes 4 f.kernel_size ∷ little_bytes 4 f.ramdisk_size
    ∷ little_bytes 4 f.os_version.number ∷ little_bytes 4 f.header_size ∷ []

-- versions 3 and 4, bytes 0 to 1,579
abbrev pub short_fields : ℕ → ShortFront → List (List ℕ)
short_fields version f = short_numbers f ++ (f.reserved ∷ little_bytes 4 version ∷ f.cmdline ∷ [])

abbrev pub boot_field_list : BootHeader → List (List ℕ)
boot_field_list (V0 f) = front_fields 0 f
boot_field_list (V1 f d) = front_fields 1 f ++ dtbo_fields d
boot_field_list (V2 f d t) = front_fields 2 f ++ dtbo_fields d ++ dtb_fields t
boot_field_list (V3 f) = short_fields 3 f
boot_field_list (V4 f signature) = short_fields 4 f ++ (little_bytes 4 signature ∷ [])

unfoldable pub boot_record : BootHeader → List ℕ
boot_record h = joined_fields (boot_field_list h)

abbrev pub boot_size : BootHeader → ℕ
boot_size (V0 f) = 1632
boot_size (V1 f d) = 1648
boot_size (V2 f d t) = 1660
boot_size (V3 f) = 1580
boot_size (V4 f signature) = 1584

abbrev pub boot_version : BootHeader → ℕ
boot_version (V0 f) = 0
boot_version (V1 f d) = 1
boot_version (V2 f d t) = 2
boot_version (V3 f) = 3
boot_version (V4 f signature) = 4

-- ---- reading: each field from its place

unfoldable pub front_at : PageSize → List ℕ → BootFront
front_at page x = record {
  kernel_size = number_at 8 4 x;
  kernel_addr = number_at 12 4 x;
  ramdisk_size = number_at 16 4 x;
  ramdisk_addr = number_at 20 4 x;
  second_size = number_at 24 4 x;
  second_addr = number_at 28 4 x;
  tags_addr = number_at 32 4 x;
  page_size = page;
  os_version = record { number = number_at 44 4 x };
  name = part_at 48 16 x;
  cmdline = part_at 64 512 x;
  id = part_at 576 32 x;
  extra_cmdline = part_at 608 1024 x;
}

unfoldable pub dtbo_at : List ℕ → DtboFields
dtbo_at x = record {
  recovery_dtbo_size = number_at 1632 4 x;
  recovery_dtbo_offset = number_at 1636 8 x;
  header_size = number_at 1644 4 x;
}

unfoldable pub dtb_at : List ℕ → DtbFields
dtb_at x = record { dtb_size = number_at 1648 4 x; dtb_addr = number_at 1652 8 x }

unfoldable pub short_at : List ℕ → ShortFront
short_at x = record {
  kernel_size = number_at 8 4 x;
  ramdisk_size = number_at 12 4 x;
  os_version = record { number = number_at 16 4 x };
  header_size = number_at 20 4 x;
  reserved = part_at 24 16 x;
  cmdline = part_at 44 1536 x;
}

-- a header of this version, or the first fault: too few bytes for the record, then the page size
unfoldable pub boot_of : ℕ → List ℕ → Result BootHeader HeaderFault
boot_of version x =
    if version == 0 then mapped (needing 1632 x (page_at 36 x)) (λ page. V0 (front_at page x))
    else if version == 1 then mapped (needing 1648 x (page_at 36 x)) (λ page. V1 (front_at page x) (dtbo_at x))
    else if version == 2
    then mapped (needing 1660 x (page_at 36 x)) (λ page. V2 (front_at page x) (dtbo_at x) (dtb_at x))
    else if version == 3 then needing 1580 x (Ok (V3 (short_at x)))
    else if version == 4 then needing 1584 x (Ok (V4 (short_at x) (number_at 1580 4 x)))
    else Err (faults.Version version)

-- the header at the beginning of x, or the first fault: the magic (`boot_magic` as a number), the version, and then
-- what the version asks for
unfoldable pub boot_at : List ℕ → Result BootHeader HeaderFault
boot_at x =
    needing 8 x (if not (number_at 0 8 x == 0x2144494f52444e41) then Err faults.Magic
    else needing 44 x (boot_of (number_at 40 4 x) x))

-- ---- the sections after the header

abbrev pub boot_page : BootHeader → ℕ
boot_page (V0 f) = page_bytes f.page_size
boot_page (V1 f d) = page_bytes f.page_size
boot_page (V2 f d t) = page_bytes f.page_size
boot_page (V3 f) = 4096
boot_page (V4 f signature) = 4096

-- in their order, each with its size
abbrev pub boot_sections : BootHeader → List (Section × ℕ)
boot_sections (V0 f) = (Kernel, f.kernel_size) ∷ (Ramdisk, f.ramdisk_size) ∷ (Second, f.second_size) ∷ []
boot_sections (V1 f d) = (Kernel, f.kernel_size) ∷ (Ramdisk, f.ramdisk_size) ∷ (Second, f.second_size)
    ∷ (RecoveryDtbo, d.recovery_dtbo_size) ∷ []
boot_sections (V2 f d t) = (Kernel, f.kernel_size) ∷ (Ramdisk, f.ramdisk_size) ∷ (Second, f.second_size)
    ∷ (RecoveryDtbo, d.recovery_dtbo_size) ∷ (Dtb, t.dtb_size) ∷ []
boot_sections (V3 f) = (Kernel, f.kernel_size) ∷ (Ramdisk, f.ramdisk_size) ∷ []
boot_sections (V4 f signature) = (Kernel, f.kernel_size) ∷ (Ramdisk, f.ramdisk_size) ∷ (Signature, signature) ∷ []

-- from the first page boundary after the header on
abbrev pub boot_places : BootHeader → List SectionPlace
boot_places h = places_from (boot_page h) (pages (boot_size h) (boot_page h)) (boot_sections h)
