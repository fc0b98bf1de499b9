-- The canonical vendor boot image: the image that is packed from these fields, fragments and parts.
use Rattle.std.specs.Prelude.{ℕ, ◌+◌, ◌*◌, ◌==◌, if◌then◌else◌, List, [], ◌∷◌, ◌++◌, length, take, map, slice_index}
use Rattle.std.specs.Prelude.{Some, None}
use Rattle.std.specs.List.{concat}
use Rattle.abt_headers.specs.declared.page.PageSize.{PageSize}
use Rattle.abt_headers.specs.declared.vendor.VendorFront.{VendorFront}
use Rattle.abt_headers.specs.declared.entry.RamdiskEntry.{RamdiskEntry}
use Rattle.abt_headers.specs.Page.{page_bytes, page_from, pages}
use Rattle.abt_headers.specs.Vendor.{Tail, Vendor, vendor_record, vendor_page, vendor_size}
use Rattle.abt_headers.specs.Entry.{entry_record}
use Rattle.abt_sections.specs.declared.spec.FragmentSpec.{FragmentSpec}
use Rattle.abt_sections.specs.Fields.{VendorFields, filled}
use Rattle.abt_sections.specs.Layout.{padded, laid_out}
use Rattle.abt_sections.specs.BootCanon.{page_or, image_size}

-- ---- the table: fragments lie end to end in its order

-- the entry of a fragment of so many bytes at a place of the vendor ramdisk
abbrev pub entry_for : FragmentSpec → ℕ → ℕ → RamdiskEntry
entry_for f size offset =
    record { ramdisk_size = size; ramdisk_offset = offset; ramdisk_type = f.kind; name = f.name; board_id = f.board_id }

-- of fragments of these sizes, the first at this offset
abbrev pub table_for : List FragmentSpec → List ℕ → ℕ → List ℕ
table_for [] sizes offset = []
table_for (f ∷ fs) [] offset = []
table_for (f ∷ fs) (n ∷ ns) offset = entry_record (entry_for f n offset) ++ table_for fs ns (offset + n)

-- ---- the header of an image whose sections have these sizes

abbrev pub vendor_front_for : VendorFields → PageSize → List ℕ → ℕ → VendorFront
vendor_front_for s page sizes header_size = record {
  page_size = page;
  kernel_addr = s.kernel_addr;
  ramdisk_addr = s.ramdisk_addr;
  vendor_ramdisk_size = slice_index sizes 0;
  cmdline = filled 2048 s.cmdline;
  tags_addr = s.tags_addr;
  name = filled 16 s.name;
  header_size = header_size;
  dtb_size = slice_index sizes 1;
  dtb_addr = s.dtb_addr;
}

abbrev pub tail_for : List ℕ → ℕ → Tail
tail_for sizes n =
    record { table_size = slice_index sizes 2; entry_num = n; entry_size = 108; bootconfig_size = slice_index sizes 3 }

-- with so many fragments
abbrev pub vendor_header_for : VendorFields → PageSize → List ℕ → ℕ → Vendor
vendor_header_for s page sizes count =
    if s.version == 3 then record { front = vendor_front_for s page sizes 2112; tail = None }
    else record { front = vendor_front_for s page sizes 2128; tail = Some (tail_for sizes count) }

abbrev pub vendor_page_for : VendorFields → PageSize
vendor_page_for s = page_or (page_from s.page)

-- ---- the image

-- what an image is packed from beside its fields
pub record VendorParts : Type 0 where
  pub fragments : List FragmentSpec
  pub ramdisks : List (List ℕ)
  pub dtb : List ℕ
  pub bootconfig : List ℕ

-- the sections of version 4; the vendor ramdisk is the ramdisks end to end
abbrev pub all_sections : VendorParts → List (List ℕ)
all_sections p = concat p.ramdisks ∷ p.dtb ∷ table_for p.fragments (map length p.ramdisks) 0 ∷ p.bootconfig ∷ []

-- the sections that a version has
abbrev pub vendor_sections_for : ℕ → VendorParts → List (List ℕ)
vendor_sections_for version p = if version == 3 then take 2 (all_sections p) else all_sections p

-- their sizes, of ramdisks, dtb and bootconfig of these sizes
abbrev pub vendor_sizes_for : ℕ → ℕ → ℕ → ℕ → List ℕ
vendor_sizes_for ramdisk dtb count bootconfig = ramdisk ∷ dtb ∷ 108 * count ∷ bootconfig ∷ []

abbrev pub vendor_header_of : VendorFields → VendorParts → Vendor
vendor_header_of s p = vendor_header_for s (vendor_page_for s)
    (vendor_sizes_for (length (concat p.ramdisks)) (length p.dtb) (length p.fragments) (length p.bootconfig))
    (length p.fragments)

abbrev pub vendor_image : Vendor → List (List ℕ) → List ℕ
vendor_image v sections = laid_out (vendor_page v) (vendor_record v) sections

-- the one image of these fields and parts
unfoldable pub vendor_canon : VendorFields → VendorParts → List ℕ
vendor_canon s p = vendor_image (vendor_header_of s p) (vendor_sections_for s.version p)

abbrev pub vendor_parts : List FragmentSpec → List (List ℕ) → List ℕ → List ℕ → VendorParts
vendor_parts fragments ramdisks dtb bootconfig = record {
  fragments = fragments;
  ramdisks = ramdisks;
  dtb = dtb;
  bootconfig = bootconfig;
}

-- how long the image of these fields and sections of these sizes is
abbrev pub vendor_image_size : VendorFields → List ℕ → ℕ
vendor_image_size s sizes = if s.version == 3 then image_size (page_bytes (vendor_page_for s)) 2112 (take 2 sizes)
    else image_size (page_bytes (vendor_page_for s)) 2128 sizes

-- where its table is in version 4: after its record, the vendor ramdisk and the dtb
abbrev pub table_place : VendorFields → List ℕ → ℕ
table_place s sizes = image_size (page_bytes (vendor_page_for s)) 2128 (take 2 sizes)

-- the beginning of an image: its record, the vendor ramdisk and the dtb, and how long that is
abbrev pub first_sections : Vendor → List ℕ → List ℕ → List ℕ
first_sections v ramdisk dtb =
    padded (vendor_page v) (vendor_record v) ++ (padded (vendor_page v) ramdisk ++ padded (vendor_page v) dtb)

abbrev pub first_size : Vendor → ℕ → ℕ → ℕ
first_size v ramdisk dtb = pages (vendor_size v) (vendor_page v) * vendor_page v
    + (pages ramdisk (vendor_page v) * vendor_page v + pages dtb (vendor_page v) * vendor_page v)
