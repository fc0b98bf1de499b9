-- The header of an image of either kind, and what it means that bytes are an image.
use Rattle.std.specs.Prelude.{◌≡◌, ℕ, ◌+◌, ◌*◌, ◌≤◌, ◌<◌, ◌==◌, ◌&&◌, nat_le, Bool, if◌then◌else◌, List, length, take}
use Rattle.std.specs.Prelude.{drop, Option, Some, None, Result}
use Rattle.abt_headers.specs.declared.fault.HeaderFault.{HeaderFault}
use Rattle.abt_headers.specs.declared.boot.BootHeader.{BootHeader}
use Rattle.abt_headers.specs.declared.sections.Section.{Section}
use Rattle.abt_headers.specs.declared.sections.SectionPlace.{SectionPlace}
use Rattle.abt_headers.specs.declared.entry.RamdiskEntry.{RamdiskEntry}
use Rattle.abt_headers.specs.Field.{number_at}
use Rattle.abt_headers.specs.Page.{pages}
use Rattle.abt_headers.specs.Places.{places_from}
use Rattle.abt_headers.specs.Fault.{mapped}
use Rattle.abt_headers.specs.Boot.{boot_at, boot_record, boot_size, boot_page, boot_sections}
use Rattle.abt_headers.specs.Fits.{BootFits}
use Rattle.abt_headers.specs.Vendor.{Tail, Vendor, vendor_view, vendor_at, vendor_record, vendor_size, vendor_page}
use Rattle.abt_headers.specs.Vendor.{vendor_sections}
use Rattle.abt_headers.specs.VendorFits.{VendorFits}
use Rattle.abt_headers.specs.Entry.{entry_at}
use Rattle.abt_sections.specs.declared.image.ImageHeader.{ImageHeader}
use Rattle.abt_sections.specs.declared.image.ImageHeader.TheVariants as variants
use Rattle.abt_sections.specs.Layout.{PartsPlaced}

pub data Header : Type 0 where
  OfBoot : BootHeader → Header
  OfVendor : Vendor → Header

abbrev pub view_of : ImageHeader → Header
view_of (variants.Boot h) = OfBoot h
view_of (variants.Vendor h) = OfVendor (vendor_view h)

abbrev pub record_of : Header → List ℕ
record_of (OfBoot h) = boot_record h
record_of (OfVendor v) = vendor_record v

abbrev pub size_of : Header → ℕ
size_of (OfBoot h) = boot_size h
size_of (OfVendor v) = vendor_size v

abbrev pub page_of : Header → ℕ
page_of (OfBoot h) = boot_page h
page_of (OfVendor v) = vendor_page v

abbrev pub sections_of : Header → List (Section × ℕ)
sections_of (OfBoot h) = boot_sections h
sections_of (OfVendor v) = vendor_sections v

-- where the sections are: each at the first page boundary after the one before
abbrev pub places_of : Header → List SectionPlace
places_of h = places_from (page_of h) (pages (size_of h) (page_of h)) (sections_of h)

-- the values that the fields can have
abbrev pub HeaderFits : Header → Type 0
HeaderFits (OfBoot h) = BootFits h
HeaderFits (OfVendor v) = VendorFits v

-- ---- reading

-- x begins with `VNDRBOOT`
abbrev pub is_vendor : List ℕ → Bool
is_vendor x = nat_le 8 (length x) && (number_at 0 8 x == 0x544f4f4252444e56)

-- the header at the beginning of x, or the first fault: of a vendor boot image where the magic says so, else of a boot
-- image
abbrev pub image_header_at : List ℕ → Result Header HeaderFault
image_header_at x = if is_vendor x then mapped (vendor_at x) (λ v. OfVendor v) else mapped (boot_at x) (λ h. OfBoot h)

-- ---- the table of ramdisk fragments, which version 4 of a vendor image has

abbrev pub entries_in : Option Tail → ℕ
entries_in None = 0
entries_in (Some t) = t.entry_num

-- how many fragments there are
abbrev pub fragment_count : Header → ℕ
fragment_count (OfBoot h) = 0
fragment_count (OfVendor v) = entries_in v.tail

abbrev pub IsTableWhole : Option Tail → Type 0
IsTableWhole None = Unit {0}
IsTableWhole (Some t) = t.table_size ≡ 108 * t.entry_num

-- the table has whole entries, as that of a header has
abbrev pub HasWholeTable : Header → Type 0
HasWholeTable (OfBoot h) = Unit {0}
HasWholeTable (OfVendor v) = IsTableWhole v.tail

-- where the vendor ramdisk begins, and how long it is
abbrev pub ramdisk_at : Header → ℕ
ramdisk_at (OfBoot h) = 0
ramdisk_at (OfVendor v) = vendor_page v * pages (vendor_size v) (vendor_page v)

abbrev pub ramdisk_size : Header → ℕ
ramdisk_size (OfBoot h) = 0
ramdisk_size (OfVendor v) = v.front.vendor_ramdisk_size

-- where the table begins: after the vendor ramdisk and the dtb
abbrev pub table_at : Header → ℕ
table_at (OfBoot h) = 0
table_at (OfVendor v) = vendor_page v * (pages (vendor_size v) (vendor_page v)
    + pages v.front.vendor_ramdisk_size (vendor_page v) + pages v.front.dtb_size (vendor_page v))

-- entry i of the table, of 108 bytes each
abbrev pub entry_of : List ℕ → Header → ℕ → RamdiskEntry
entry_of x h i = entry_at (take 108 (drop (table_at h + 108 * i) x))

-- a fragment ends within the vendor ramdisk
abbrev pub IsWithin : Header → RamdiskEntry → Type 0
IsWithin h e = e.ramdisk_offset + e.ramdisk_size ≤ ramdisk_size h

-- each fragment does
abbrev pub EachWithin : List ℕ → Header → Type 0
EachWithin x h = (i : ℕ) → i < fragment_count h → IsWithin h (entry_of x h i)

-- the record of h is at the beginning of x, and each part whole at its place
pub record IsImage (x : List ℕ) (h : Header) (parts : List (List ℕ)) : Type 0 where
  pub fits : HeaderFits h
  pub begins : take (size_of h) x ≡ record_of h
  pub placed : PartsPlaced x (places_of h) parts

-- the part of the vendor ramdisk that an entry says
abbrev pub ramdisk_part : List ℕ → Header → RamdiskEntry → List ℕ
ramdisk_part x h e = take e.ramdisk_size (drop e.ramdisk_offset (take (ramdisk_size h) (drop (ramdisk_at h) x)))

-- fragment i, at the place that the table gives within the vendor ramdisk
abbrev pub fragment_of : List ℕ → Header → ℕ → List ℕ
fragment_of x h i = take (entry_of x h i).ramdisk_size (drop (ramdisk_at h + (entry_of x h i).ramdisk_offset) x)
