-- Which bytes are an image that the packer writes.
use Rattle.std.specs.Prelude.{◌≡◌, ℕ, ◌<◌, ◌^◌, ◌⊎◌, List, length, take, map, slice_index, None}
use Rattle.std.specs.List.{All, concat}
use Rattle.abt_sections.specs.declared.spec.FragmentSpec.{FragmentSpec}
use Rattle.abt_sections.specs.Fields.{BootFields, VendorFields}
use Rattle.abt_sections.specs.Refusal.{boot_names, pack_boot_refusal, pack_vendor_refusal}
use Rattle.abt_sections.specs.BootCanon.{boot_canon}
use Rattle.abt_sections.specs.VendorCanon.{VendorParts, vendor_sizes_for, vendor_canon}

-- x begins with y
abbrev pub StartsWith : List ℕ → List ℕ → Type 0
StartsWith x y = take (length y) x ≡ y

-- ---- boot images

-- the numbers are those that the record's fields can hold
pub record BootNumbers (s : BootFields) : Type 0 where
  pub kernel_addr : s.kernel_addr < 2 ^ 32
  pub ramdisk_addr : s.ramdisk_addr < 2 ^ 32
  pub second_addr : s.second_addr < 2 ^ 32
  pub tags_addr : s.tags_addr < 2 ^ 32
  pub dtb_addr : s.dtb_addr < 2 ^ 64
  pub os : s.os.number < 2 ^ 32

-- what the packer takes: a part for each section of the version, and nothing that it refuses
pub record IsBootInput (s : BootFields) (parts : List (List ℕ)) : Type 0 where
  pub numbers : BootNumbers s
  pub count : length parts ≡ length (boot_names s.version)
  pub accepted : pack_boot_refusal s (map length parts) ≡ None

-- x begins with the image that is packed of some fields and parts
pub record StartsAsBoot (x : List ℕ) : Type 0 where
  pub fields : BootFields
  pub parts : List (List ℕ)
  pub input : IsBootInput fields parts
  pub front : StartsWith x (boot_canon fields parts)

-- ---- vendor boot images

pub record VendorNumbers (s : VendorFields) : Type 0 where
  pub kernel_addr : s.kernel_addr < 2 ^ 32
  pub ramdisk_addr : s.ramdisk_addr < 2 ^ 32
  pub tags_addr : s.tags_addr < 2 ^ 32
  pub dtb_addr : s.dtb_addr < 2 ^ 64

-- an entry of the table can hold it
pub record FragmentFits (f : FragmentSpec) : Type 0 where
  pub kind : f.kind < 2 ^ 32
  pub name : length f.name ≡ 32
  pub board_long : length f.board_id ≡ 16
  pub board_id : (i : ℕ) → slice_index f.board_id i < 2 ^ 32

-- what the packer takes: in version 3 one ramdisk and no more than a dtb after it, in version 4 a fragment for each
-- ramdisk; and nothing that it refuses
pub record IsVendorInput (s : VendorFields) (p : VendorParts) : Type 0 where
  pub numbers : VendorNumbers s
  pub fragments : All FragmentFits p.fragments
  pub three : s.version ≡ 3 → (length p.fragments ≡ 0) × (length p.ramdisks ≡ 1) × (length p.bootconfig ≡ 0)
  pub four : s.version ≡ 4 → length p.fragments ≡ length p.ramdisks
  pub accepted : pack_vendor_refusal s (vendor_sizes_for (length (concat p.ramdisks)) (length p.dtb)
      (length p.fragments) (length p.bootconfig)) ≡ None

pub record StartsAsVendor (x : List ℕ) : Type 0 where
  pub fields : VendorFields
  pub parts : VendorParts
  pub input : IsVendorInput fields parts
  pub front : StartsWith x (vendor_canon fields parts)

-- ---- both

-- x begins with an image that the packer writes
abbrev pub StartsAsPacked : List ℕ → Type 0
StartsAsPacked x = StartsAsBoot x ⊎ StartsAsVendor x
