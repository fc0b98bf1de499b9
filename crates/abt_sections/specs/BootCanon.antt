-- The canonical boot image: the image that is packed from these fields and parts.
use Rattle.std.specs.Prelude.{ℕ, ◌+◌, ◌*◌, ◌==◌, nat_lt, if◌then◌else◌, Bool, false, List, length, take, drop}
use Rattle.std.specs.Prelude.{replicate, map}
use Rattle.std.specs.Prelude.{slice_index, Option, Some, None}
use Rattle.abt_headers.specs.declared.page.PageSize.{PageSize}
use Rattle.abt_headers.specs.declared.page.PageSize.TheVariants.{Of4096}
use Rattle.abt_headers.specs.declared.boot.BootFront.{BootFront}
use Rattle.abt_headers.specs.declared.boot.DtboFields.{DtboFields}
use Rattle.abt_headers.specs.declared.boot.DtbFields.{DtbFields}
use Rattle.abt_headers.specs.declared.boot.ShortFront.{ShortFront}
use Rattle.abt_headers.specs.declared.boot.BootHeader.{BootHeader}
use Rattle.abt_headers.specs.declared.boot.BootHeader.TheVariants.{V0, V1, V2, V3, V4}
use Rattle.abt_headers.specs.Page.{page_bytes, page_from, pages}
use Rattle.abt_headers.specs.Boot.{boot_record, boot_page}
use Rattle.abt_sections.specs.Fields.{BootFields, filled}
use Rattle.abt_sections.specs.Id.{id_of}
use Rattle.abt_sections.specs.Layout.{laid_out, laid_size}

-- ---- the header of an image with parts of these sizes and this id

-- how many bytes of a command line its first field has at most: one less where a zero ends the field
abbrev pub front_size : Bool → ℕ
front_size is_ended = if is_ended then 511 else 512

-- versions 0 to 2; the command line lies over both of its fields, of which a zero ends the first or not
abbrev pub front_with : Bool → BootFields → PageSize → List ℕ → List ℕ → BootFront
front_with is_ended s page sizes id = record {
  kernel_size = slice_index sizes 0;
  kernel_addr = s.kernel_addr;
  ramdisk_size = slice_index sizes 1;
  ramdisk_addr = s.ramdisk_addr;
  second_size = slice_index sizes 2;
  second_addr = s.second_addr;
  tags_addr = s.tags_addr;
  page_size = page;
  os_version = s.os;
  name = filled 16 s.name;
  id = id;
  cmdline = filled 512 (take (front_size is_ended) s.cmdline);
  extra_cmdline = filled 1024 (drop (front_size is_ended) s.cmdline);
}

-- where the recovery dtbo is, or 0 where it is empty
abbrev pub dtbo_offset : ℕ → ℕ → ℕ → ℕ → ℕ → ℕ
dtbo_offset page kernel ramdisk second dtbo =
    if dtbo == 0 then 0 else page * (1 + pages kernel page + pages ramdisk page + pages second page)

-- from version 1 on
abbrev pub dtbo_for : PageSize → List ℕ → ℕ → DtboFields
dtbo_for page sizes header_size = record {
  recovery_dtbo_size = slice_index sizes 3;
  recovery_dtbo_offset = dtbo_offset (page_bytes page) (slice_index sizes 0) (slice_index sizes 1)
      (slice_index sizes 2) (slice_index sizes 3);
  header_size = header_size;
}

-- version 2
abbrev pub dtb_for : BootFields → List ℕ → DtbFields
dtb_for s sizes = record { dtb_size = slice_index sizes 4; dtb_addr = s.dtb_addr }

-- versions 3 and 4
abbrev pub short_for : BootFields → List ℕ → ℕ → ShortFront
short_for s sizes header_size = record {
  kernel_size = slice_index sizes 0;
  ramdisk_size = slice_index sizes 1;
  os_version = s.os;
  header_size = header_size;
  reserved = replicate 16 0;
  cmdline = filled 1536 s.cmdline;
}

unfoldable pub boot_header_with : Bool → BootFields → PageSize → List ℕ → List ℕ → BootHeader
boot_header_with is_ended s page sizes id = if s.version == 0 then V0 (front_with is_ended s page sizes id)
    else if s.version == 1 then V1 (front_with is_ended s page sizes id) (dtbo_for page sizes 1648)
    else if s.version == 2 then V2 (front_with is_ended s page sizes id) (dtbo_for page sizes 1660) (dtb_for s sizes)
    else if s.version == 3 then V3 (short_for s sizes 1580)
    else V4 (short_for s sizes 1584) (slice_index sizes 2)

abbrev pub page_or : Option PageSize → PageSize
page_or (Some p) = p
page_or None = Of4096

-- the page of an image, which versions 3 and 4 don't choose
abbrev pub boot_page_for : BootFields → PageSize
boot_page_for s = if nat_lt s.version 3 then page_or (page_from s.page) else Of4096

-- the id of the versions that have one
abbrev pub id_for : ℕ → List (List ℕ) → List ℕ
id_for version parts = if nat_lt version 3 then id_of parts else replicate 32 0

-- the header of the image of these fields and parts; a version has at most five sections
abbrev pub boot_header_from : Bool → BootFields → List (List ℕ) → BootHeader
boot_header_from is_ended s parts =
    boot_header_with is_ended s (boot_page_for s) (filled 5 (map length parts)) (id_for s.version parts)

-- the canonical one, whose command line fills its first field
abbrev pub boot_header_of : BootFields → List (List ℕ) → BootHeader
boot_header_of s parts = boot_header_from false s parts

-- ---- the image

abbrev pub boot_image : BootHeader → List (List ℕ) → List ℕ
boot_image h parts = laid_out (boot_page h) (boot_record h) parts

-- the image of these fields and parts, where a zero ends the first field of the command line or not
unfoldable pub boot_image_with : Bool → BootFields → List (List ℕ) → List ℕ
boot_image_with is_ended s parts = boot_image (boot_header_from is_ended s parts) parts

-- the one canonical image of these fields and parts
abbrev pub boot_canon : BootFields → List (List ℕ) → List ℕ
boot_canon s parts = boot_image_with false s parts

-- how long an image is whose record and parts have these sizes
abbrev pub image_size : ℕ → ℕ → List ℕ → ℕ
image_size page header sizes = pages header page * page + laid_size page sizes

abbrev pub boot_record_size : ℕ → ℕ
boot_record_size version = if version == 0 then 1632 else if version == 1 then 1648 else if version == 2 then 1660
    else if version == 3 then 1580 else 1584

-- how long the image of these fields and parts of these sizes is
abbrev pub boot_image_size : BootFields → List ℕ → ℕ
boot_image_size s sizes = image_size (page_bytes (boot_page_for s)) (boot_record_size s.version) sizes
