-- The values that the fields of a header may have.
use Rattle.std.specs.Prelude.{◌≡◌, ◌<◌, ◌^◌, length}
use Rattle.abt_headers.specs.declared.boot.BootFront.{BootFront}
use Rattle.abt_headers.specs.declared.boot.DtboFields.{DtboFields}
use Rattle.abt_headers.specs.declared.boot.DtbFields.{DtbFields}
use Rattle.abt_headers.specs.declared.boot.ShortFront.{ShortFront}
use Rattle.abt_headers.specs.declared.boot.BootHeader.{BootHeader}
use Rattle.abt_headers.specs.declared.boot.BootHeader.TheVariants.{V0, V1, V2, V3, V4}

pub record FrontFits (f : BootFront) : Type 0 where
  pub kernel_size : f.kernel_size < 2 ^ 32
  pub kernel_addr : f.kernel_addr < 2 ^ 32
  pub ramdisk_size : f.ramdisk_size < 2 ^ 32
  pub ramdisk_addr : f.ramdisk_addr < 2 ^ 32
  pub second_size : f.second_size < 2 ^ 32
  pub second_addr : f.second_addr < 2 ^ 32
  pub tags_addr : f.tags_addr < 2 ^ 32
  pub os_version : f.os_version.number < 2 ^ 32
  pub name : length f.name ≡ 16
  pub cmdline : length f.cmdline ≡ 512
  pub id : length f.id ≡ 32
  pub extra_cmdline : length f.extra_cmdline ≡ 1024

pub record DtboFits (d : DtboFields) : Type 0 where
  pub recovery_dtbo_size : d.recovery_dtbo_size < 2 ^ 32
  pub recovery_dtbo_offset : d.recovery_dtbo_offset < 2 ^ 64
  pub header_size : d.header_size < 2 ^ 32

pub record DtbFits (d : DtbFields) : Type 0 where
  pub dtb_size : d.dtb_size < 2 ^ 32
  pub dtb_addr : d.dtb_addr < 2 ^ 64

pub record ShortFits (f : ShortFront) : Type 0 where
  pub kernel_size : f.kernel_size < 2 ^ 32
  pub ramdisk_size : f.ramdisk_size < 2 ^ 32
  pub os_version : f.os_version.number < 2 ^ 32
  pub header_size : f.header_size < 2 ^ 32
  pub reserved : length f.reserved ≡ 16
  pub cmdline : length f.cmdline ≡ 1536

abbrev pub BootFits : BootHeader → Type 0
BootFits (V0 f) = FrontFits f
BootFits (V1 f d) = FrontFits f × DtboFits d
BootFits (V2 f d t) = FrontFits f × DtboFits d × DtbFits t
BootFits (V3 f) = ShortFits f
BootFits (V4 f signature) = ShortFits f × (signature < 2 ^ 32)
