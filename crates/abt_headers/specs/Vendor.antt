-- The vendor boot header (`vendor_boot_img_hdr_v3` and `vendor_boot_img_hdr_v4` of AOSP's `bootimg.h`): its bytes,
-- what reading them gives, and the sections after it.
use Rattle.std.specs.Prelude.{ℕ, ◌*◌, ◌==◌, ◌||◌, not, if◌then◌else◌, List, [], ◌∷◌, ◌++◌, Option, Some, None, Result}
use Rattle.std.specs.Prelude.{Ok, Err}
use Rattle.byteorder.specs.Endian.{little_bytes}
use Rattle.abt_headers.specs.declared.fault.HeaderFault.{HeaderFault}
use Rattle.abt_headers.specs.declared.fault.HeaderFault.TheVariants as faults
use Rattle.abt_headers.specs.declared.page.PageSize.{PageSize}
use Rattle.abt_headers.specs.declared.vendor.VendorFront.{VendorFront}
use Rattle.abt_headers.specs.declared.vendor_tail.VendorTail.{VendorTail}
use Rattle.abt_headers.specs.declared.vendor.VendorHeader.{VendorHeader}
use Rattle.abt_headers.specs.declared.vendor.VendorHeader.TheVariants.{V3, V4}
use Rattle.abt_headers.specs.declared.sections.Section.{Section}
use Rattle.abt_headers.specs.declared.sections.Section.TheVariants.{VendorRamdisk, Dtb, Table, Bootconfig}
use Rattle.abt_headers.specs.declared.sections.SectionPlace.{SectionPlace}
use Rattle.abt_headers.specs.Fault.{needing, mapped, both}
use Rattle.abt_headers.specs.Field.{number_at, part_at, joined_fields}
use Rattle.abt_headers.specs.Page.{page_bytes, page_at, pages}
use Rattle.abt_headers.specs.Places.{places_from}

-- ---- the header as a value

-- what version 4 adds: a `VendorTail` without the facts that it keeps
pub record Tail : Type 0 where
  pub table_size : ℕ
  pub entry_num : ℕ
  pub entry_size : ℕ
  pub bootconfig_size : ℕ

abbrev pub tail_view : VendorTail → Tail
tail_view t = record {
  table_size = t.table_size;
  entry_num = t.entry_num;
  entry_size = t.entry_size;
  bootconfig_size = t.bootconfig_size;
}

-- a header of version 3, or 4 where there is a tail
pub record Vendor : Type 0 where
  pub front : VendorFront
  pub tail : Option Tail

abbrev pub vendor_view : VendorHeader → Vendor
vendor_view (V3 f) = record { front = f; tail = None }
vendor_view (V4 f t) = record { front = f; tail = Some (tail_view t) }

-- ---- the record: the fields' bytes in their order, joined

-- `VNDRBOOT`
abbrev pub vendor_magic : List ℕ
vendor_magic = 0x56 ∷ 0x4e ∷ 0x44 ∷ 0x52 ∷ 0x42 ∷ 0x4f ∷ 0x4f ∷ 0x54 ∷ []

-- bytes 0 to 27
abbrev pub vendor_head : ℕ → VendorFront → List (List ℕ)
vendor_head version f = vendor_magic
    ∷ little_bytes 4 version ∷ little_bytes 4 (page_bytes f.page_size)
    ∷ little_bytes 4 f.kernel_addr ∷ little_bytes 4 f.ramdisk_addr ∷ little_bytes 4 f.vendor_ramdisk_size ∷ []

-- bytes 2,096 to 2,111
abbrev pub vendor_end : VendorFront → List (List ℕ)
vendor_end f = little_bytes 4 f.header_size ∷ little_bytes 4 f.dtb_size ∷ little_bytes 8 f.dtb_addr ∷ []

-- bytes 0 to 2,111
abbrev pub vendor_field_list : ℕ → VendorFront → List (List ℕ)
vendor_field_list version f = vendor_head version f ++ (f.cmdline ∷ little_bytes 4 f.tags_addr ∷ f.name ∷ vendor_end f)

-- version 4, bytes 2,112 to 2,127
abbrev pub tail_fields : Tail → List (List ℕ)
tail_fields t = little_bytes 4 t.table_size ∷ little_bytes 4 t.entry_num ∷ little_bytes 4 t.entry_size
    ∷ little_bytes 4 t.bootconfig_size ∷ []

abbrev pub all_fields : VendorFront → Option Tail → List (List ℕ)
all_fields f None = vendor_field_list 3 f
all_fields f (Some t) = vendor_field_list 4 f ++ tail_fields t

unfoldable pub vendor_record : Vendor → List ℕ
vendor_record h = joined_fields (all_fields h.front h.tail)

abbrev pub vendor_size_with : Option Tail → ℕ
vendor_size_with None = 2112
vendor_size_with (Some t) = 2128

abbrev pub vendor_version_with : Option Tail → ℕ
vendor_version_with None = 3
vendor_version_with (Some t) = 4

abbrev pub vendor_size : Vendor → ℕ
vendor_size h = vendor_size_with h.tail

abbrev pub vendor_version : Vendor → ℕ
vendor_version h = vendor_version_with h.tail

-- ---- reading: each field from its place

unfoldable pub vendor_front_at : PageSize → List ℕ → VendorFront
vendor_front_at page x = record {
  page_size = page;
  kernel_addr = number_at 16 4 x;
  ramdisk_addr = number_at 20 4 x;
  vendor_ramdisk_size = number_at 24 4 x;
  cmdline = part_at 28 2048 x;
  tags_addr = number_at 2076 4 x;
  name = part_at 2080 16 x;
  header_size = number_at 2096 4 x;
  dtb_size = number_at 2100 4 x;
  dtb_addr = number_at 2104 8 x;
}

unfoldable pub tail_at : List ℕ → Tail
tail_at x = record {
  table_size = number_at 2112 4 x;
  entry_num = number_at 2116 4 x;
  entry_size = number_at 2120 4 x;
  bootconfig_size = number_at 2124 4 x;
}

-- what version 4 adds, where the table consists of whole entries of 108 bytes
abbrev pub tail_checked : Tail → Result Tail HeaderFault
tail_checked t = if not (t.entry_size == 108) || not (t.table_size == 108 * t.entry_num) then Err faults.Table else Ok t

abbrev pub tail_or_fault : List ℕ → Result Tail HeaderFault
tail_or_fault x = tail_checked (tail_at x)

-- a header of this version, or the first fault: too few bytes for the record, the page size, and then the table
unfoldable pub vendor_of : ℕ → List ℕ → Result Vendor HeaderFault
vendor_of version x =
    if version == 3
    then mapped (needing 2112 x (page_at 12 x)) (λ page. record { front = vendor_front_at page x; tail = None })
    else if version == 4
    then mapped (both (needing 2128 x (page_at 12 x)) (tail_or_fault x))
    (λ p. record { front = vendor_front_at p.0 x; tail = Some p.1 })
    else Err (faults.Version version)

-- the header at the beginning of x, or the first fault: the magic (`vendor_magic` as a number), the version, and then
-- what the version asks for
unfoldable pub vendor_at : List ℕ → Result Vendor HeaderFault
vendor_at x =
    needing 8 x (if not (number_at 0 8 x == 0x544f4f4252444e56) then Err faults.Magic
    else needing 12 x (vendor_of (number_at 8 4 x) x))

-- ---- the sections after the header

abbrev pub vendor_page : Vendor → ℕ
vendor_page h = page_bytes h.front.page_size

-- in their order, each with its size
abbrev pub vendor_sections_with : VendorFront → Option Tail → List (Section × ℕ)
vendor_sections_with f None = (VendorRamdisk, f.vendor_ramdisk_size) ∷ (Dtb, f.dtb_size) ∷ []
vendor_sections_with f (Some t) = (VendorRamdisk, f.vendor_ramdisk_size) ∷ (Dtb, f.dtb_size) ∷ (Table, t.table_size)
    ∷ (Bootconfig, t.bootconfig_size) ∷ []

abbrev pub vendor_sections : Vendor → List (Section × ℕ)
vendor_sections h = vendor_sections_with h.front h.tail

-- from the first page boundary after the header on
abbrev pub vendor_places : Vendor → List SectionPlace
vendor_places h = places_from (vendor_page h) (pages (vendor_size h) (vendor_page h)) (vendor_sections h)
