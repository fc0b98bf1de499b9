-- The fields that an image is packed from, beside its parts, and what a text field is.
use Rattle.std.specs.Prelude.{ℕ, ◌-◌, ◌==◌, ◌&&◌, nat_le, not, Bool, true, List, [], ◌∷◌, ◌++◌, length, replicate}
use Rattle.abt_headers.specs.declared.os.OsVersion.{OsVersion}
use Rattle.abt_sections.specs.declared.spec.BootSpec.{BootSpec}
use Rattle.abt_sections.specs.declared.spec.VendorSpec.{VendorSpec}

-- of a boot image
pub record BootFields : Type 0 where
  pub version : ℕ
  pub page : ℕ
  pub kernel_addr : ℕ
  pub ramdisk_addr : ℕ
  pub second_addr : ℕ
  pub tags_addr : ℕ
  pub dtb_addr : ℕ
  pub os : OsVersion
  pub name : List ℕ
  pub cmdline : List ℕ

abbrev pub cmd_common_fields : BootSpec → BootFields
cmd_common_fields s = record {
  version = s.version;
  page = s.page;
  kernel_addr = s.kernel_addr;
  ramdisk_addr = s.ramdisk_addr;
  second_addr = s.second_addr;
  tags_addr = s.tags_addr;
  dtb_addr = s.dtb_addr;
  os = s.os;
  name = s.name.now;
  cmdline = s.cmdline.now;
}

-- of a vendor boot image
pub record VendorFields : Type 0 where
  pub version : ℕ
  pub page : ℕ
  pub kernel_addr : ℕ
  pub ramdisk_addr : ℕ
  pub tags_addr : ℕ
  pub dtb_addr : ℕ
  pub name : List ℕ
  pub cmdline : List ℕ

abbrev pub vendor_fields : VendorSpec → VendorFields
vendor_fields s = record {
  version = s.version;
  page = s.page;
  kernel_addr = s.kernel_addr;
  ramdisk_addr = s.ramdisk_addr;
  tags_addr = s.tags_addr;
  dtb_addr = s.dtb_addr;
  name = s.name.now;
  cmdline = s.cmdline.now;
}

-- ---- texts

-- no byte is zero
abbrev pub no_zero : List ℕ → Bool
no_zero [] = true
no_zero (b ∷ x) = not (b == 0) && no_zero x

-- at most n bytes, none of them zero
abbrev pub is_text : ℕ → List ℕ → Bool
is_text n x = nat_le (length x) n && no_zero x

-- n bytes: x and then zeros
abbrev pub filled : ℕ → List ℕ → List ℕ
filled n x = x ++ replicate (n - length x) 0
