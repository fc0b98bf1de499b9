-- The options of `pack` that set the parts of an image and their addresses.
use Rattle.std.specs.Prelude.{ℕ, List, [], codes}
use Rattle.abt_headers.specs.declared.sections.Section.{Section}
use Rattle.abt_headers.specs.declared.sections.Section.TheVariants.{Kernel, Ramdisk, Second, RecoveryDtbo, Dtb}
use Rattle.abt_headers.specs.declared.sections.Section.TheVariants.{Signature, VendorRamdisk, Table, Bootconfig}
use Rattle.cmd_common_fields.specs.declared.fields.Address.{Address}
use Rattle.cmd_common_fields.specs.declared.fields.Address.TheVariants as addresses

-- the option that sets a section; none sets a table, which comes with its fragments
abbrev pub option_of : Section → List ℕ
option_of Kernel = codes "kernel"
option_of Ramdisk = codes "ramdisk"
option_of Second = codes "second"
option_of RecoveryDtbo = codes "recovery-dtbo"
option_of Dtb = codes "dtb"
option_of Signature = codes "signature"
option_of VendorRamdisk = codes "ramdisk"
option_of Table = []
option_of Bootconfig = codes "bootconfig"

-- the option that sets an address
abbrev pub address_option : Address → List ℕ
address_option addresses.Kernel = codes "kernel-addr"
address_option addresses.Ramdisk = codes "ramdisk-addr"
address_option addresses.Second = codes "second-addr"
address_option addresses.Tags = codes "tags-addr"
address_option addresses.Dtb = codes "dtb-addr"

-- the option that sets its offset from the base
abbrev pub offset_option : Address → List ℕ
offset_option addresses.Kernel = codes "kernel-offset"
offset_option addresses.Ramdisk = codes "ramdisk-offset"
offset_option addresses.Second = codes "second-offset"
offset_option addresses.Tags = codes "tags-offset"
offset_option addresses.Dtb = codes "dtb-offset"
