-- The values that the fields of a vendor header may have.
use Rattle.std.specs.Prelude.{◌≡◌, ◌*◌, ◌<◌, ◌^◌, length, Option, Some, None}
use Rattle.abt_headers.specs.declared.vendor.VendorFront.{VendorFront}
use Rattle.abt_headers.specs.Vendor.{Tail, Vendor}

pub record VendorFrontFits (f : VendorFront) : Type 0 where
  pub kernel_addr : f.kernel_addr < 2 ^ 32
  pub ramdisk_addr : f.ramdisk_addr < 2 ^ 32
  pub vendor_ramdisk_size : f.vendor_ramdisk_size < 2 ^ 32
  pub cmdline : length f.cmdline ≡ 2048
  pub tags_addr : f.tags_addr < 2 ^ 32
  pub name : length f.name ≡ 16
  pub header_size : f.header_size < 2 ^ 32
  pub dtb_size : f.dtb_size < 2 ^ 32
  pub dtb_addr : f.dtb_addr < 2 ^ 64

pub record TailFits (t : Tail) : Type 0 where
  pub table_size : t.table_size < 2 ^ 32
  pub entry_num : t.entry_num < 2 ^ 32
  pub entry_size : t.entry_size < 2 ^ 32
  pub bootconfig_size : t.bootconfig_size < 2 ^ 32
  pub entries : t.entry_size ≡ 108
  pub whole : t.table_size ≡ 108 * t.entry_num

abbrev pub IfTail : Option Tail → Type 0
IfTail None = Unit {0}
IfTail (Some t) = TailFits t

abbrev pub VendorFits : Vendor → Type 0
VendorFits h = VendorFrontFits h.front × IfTail h.tail
