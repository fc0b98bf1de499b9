-- The parts from which an image of a kind is packed, beside its ramdisk fragments.
use Rattle.std.specs.Prelude.{ℕ, List, [], ◌∷◌, ◌==◌, if◌then◌else◌, length}
use Rattle.abt_headers.specs.declared.sections.Section.{Section}
use Rattle.abt_headers.specs.declared.sections.Section.TheVariants.{VendorRamdisk, Dtb, Bootconfig}
use Rattle.abt_sections.specs.Refusal.{boot_names}
use Rattle.cmd_common_fields.specs.declared.image_kind.ImageKind.{ImageKind}
use Rattle.cmd_common_fields.specs.declared.image_kind.ImageKind.TheVariants.{Boot, Vendor}

-- The sections of the parts, in order. Of the vendor boot images, version 3 has the ramdisk and the dtb. Version 4
-- has the dtb and the bootconfig; its ramdisk is its fragments.
abbrev pub part_sections : ImageKind → List Section
part_sections (Boot n) = boot_names n
part_sections (Vendor n) = (if n == 3 then VendorRamdisk else Dtb) ∷ (if n == 3 then Dtb else Bootconfig) ∷ []

abbrev pub row_count : ImageKind → ℕ
row_count kind = length (part_sections kind)

abbrev pub IsBoot : ImageKind → Type 0
IsBoot (Boot n) = Unit {0}
IsBoot (Vendor n) = ⊥
