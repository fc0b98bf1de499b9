-- The results of checking an image.
use Rattle.std.specs.Prelude.{◌≡◌, ℕ, zero, suc, IsSome, ◌+◌, ◌==◌, ◌&&◌, Bool, true, false, if◌then◌else◌, IsTrue}
use Rattle.std.specs.Prelude.{List, [], ◌∷◌, ◌++◌, length, take, drop, ◌<◌, ◌↔◌}
use Rattle.abt_headers.specs.declared.sections.SectionPlace.{SectionPlace}
use Rattle.abt_headers.specs.declared.boot.BootFront.{BootFront}
use Rattle.abt_headers.specs.declared.boot.ShortFront.{ShortFront}
use Rattle.abt_headers.specs.declared.boot.BootHeader.{BootHeader}
use Rattle.abt_headers.specs.declared.boot.BootHeader.TheVariants.{V0, V1, V2, V3, V4}
use Rattle.abt_headers.specs.Page.{page_bytes}
use Rattle.abt_headers.specs.Vendor.{vendor_size}
use Rattle.abt_sections.specs.declared.checking.Verdict.{Verdict}
use Rattle.abt_sections.specs.Header.{Header, OfBoot, OfVendor, size_of, page_of, places_of, entry_of, fragment_count}
use Rattle.abt_sections.specs.Header.{ramdisk_size}
use Rattle.abt_sections.specs.Layout.{padding, parts_of}
use Rattle.abt_sections.specs.Id.{id_of}
use Rattle.abt_sections.specs.BootCanon.{dtbo_offset}

abbrev pub all_zero : List ℕ → Bool
all_zero [] = true
all_zero (b ∷ x) = (b == 0) && all_zero x

-- ---- padding

-- the n bytes at a place are there and zero
abbrev pub zeros_there : List ℕ → ℕ → ℕ → Bool
zeros_there x at n = (length (take n (drop at x)) == n) && all_zero (take n (drop at x))

-- after each of these places, up to a page boundary
abbrev pub padded_places : List ℕ → ℕ → List SectionPlace → Bool
padded_places x page [] = true
padded_places x page (p ∷ ps) = zeros_there x (p.at + p.size) (padding p.size page) && padded_places x page ps

-- after the header and after each section
abbrev pub padding_holds : List ℕ → Header → Bool
padding_holds x h =
    zeros_there x (size_of h) (padding (size_of h) (page_of h)) && padded_places x (page_of h) (places_of h)

-- ---- offset: header_size and recovery_dtbo_offset are what the packer writes, where the version has them

abbrev pub boot_offset_holds : BootHeader → Bool
boot_offset_holds (V0 f) = true
boot_offset_holds (V1 f d) = (d.header_size == 1648)
    && (d.recovery_dtbo_offset == dtbo_offset
    (page_bytes f.page_size) f.kernel_size f.ramdisk_size f.second_size d.recovery_dtbo_size)
boot_offset_holds (V2 f d t) = (d.header_size == 1660)
    && (d.recovery_dtbo_offset == dtbo_offset
    (page_bytes f.page_size) f.kernel_size f.ramdisk_size f.second_size d.recovery_dtbo_size)
boot_offset_holds (V3 f) = f.header_size == 1580
boot_offset_holds (V4 f signature) = f.header_size == 1584

abbrev pub offset_holds : Header → Bool
offset_holds (OfBoot h) = boot_offset_holds h
offset_holds (OfVendor v) = v.front.header_size == vendor_size v

-- ---- id: the field is the id of what is stored in the sections, where the version has one

abbrev pub BootIdHolds : List ℕ → BootHeader → Type 0
BootIdHolds x (V0 f) = f.id ≡ id_of (parts_of x (places_of (OfBoot (V0 f))))
BootIdHolds x (V1 f d) = f.id ≡ id_of (parts_of x (places_of (OfBoot (V1 f d))))
BootIdHolds x (V2 f d t) = f.id ≡ id_of (parts_of x (places_of (OfBoot (V2 f d t))))
BootIdHolds x (V3 f) = Unit {0}
BootIdHolds x (V4 f signature) = Unit {0}

abbrev pub IdHolds : List ℕ → Header → Type 0
IdHolds x (OfBoot h) = BootIdHolds x h
IdHolds x (OfVendor v) = Unit {0}

-- ---- canonical

-- a field is a text: zero from its first zero byte on, and its last byte is zero
abbrev pub text_field : List ℕ → Bool
text_field [] = false
text_field (b ∷ x) = if b == 0 then all_zero x else text_field x

-- each name and command line is one, and reserved bytes are zero
abbrev pub front_texts : BootFront → Bool
front_texts f = text_field f.name && text_field (f.cmdline ++ f.extra_cmdline)

abbrev pub short_texts : ShortFront → Bool
short_texts f = all_zero f.reserved && text_field f.cmdline

abbrev pub cmd_common_texts : BootHeader → Bool
cmd_common_texts (V0 f) = front_texts f
cmd_common_texts (V1 f d) = front_texts f
cmd_common_texts (V2 f d t) = front_texts f
cmd_common_texts (V3 f) = short_texts f
cmd_common_texts (V4 f signature) = short_texts f

abbrev pub texts_hold : Header → Bool
texts_hold (OfBoot h) = cmd_common_texts h
texts_hold (OfVendor v) = text_field v.front.name && text_field v.front.cmdline

-- how many bytes the first i fragments have
abbrev pub sizes_before : List ℕ → Header → ℕ → ℕ
sizes_before x h zero = 0
sizes_before x h (suc i) = sizes_before x h i + (entry_of x h i).ramdisk_size

-- fragments lie end to end from 0 in table order, and fill the vendor ramdisk
pub record EndToEnd (x : List ℕ) (h : Header) : Type 0 where
  pub placed : (i : ℕ) → i < fragment_count h → (entry_of x h i).ramdisk_offset ≡ sizes_before x h i
  pub full : sizes_before x h (fragment_count h) ≡ ramdisk_size h

-- the version has a table
abbrev pub HasTable : Header → Type 0
HasTable (OfBoot h) = ⊥
HasTable (OfVendor v) = IsSome v.tail

abbrev pub FragmentsFill : List ℕ → Header → Type 0
FragmentsFill x h = HasTable h → EndToEnd x h

-- the bytes are those that the packer writes for these parts and fields
pub record IsCanonical (x : List ℕ) (h : Header) : Type 0 where
  pub padding : IsTrue (padding_holds x h)
  pub id : IdHolds x h
  pub offset : IsTrue (offset_holds h)
  pub texts : IsTrue (texts_hold h)
  pub fragments : FragmentsFill x h

-- the verdict v is the one of the image x with the header h
pub record IsVerdict (x : List ℕ) (h : Header) (v : Verdict) : Type 0 where
  pub padding : v.padding ≡ padding_holds x h
  pub id : IsTrue v.id ↔ IdHolds x h
  pub offset : v.offset ≡ offset_holds h
  pub canonical : IsTrue v.canonical ↔ IsCanonical x h
