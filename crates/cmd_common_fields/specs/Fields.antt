-- The fields of an image's header, of every kind and version.
use Rattle.std.specs.Prelude.{ℕ, ◌==◌, not, List, Option, Some, None, codes}
use Rattle.std.specs.List.{take_while}
use Rattle.abt_headers.specs.declared.boot.BootFront.{BootFront}
use Rattle.abt_headers.specs.declared.boot.BootHeader.{BootHeader}
use Rattle.abt_headers.specs.declared.boot.BootHeader.TheVariants.{V0, V1, V2, V3, V4}
use Rattle.abt_headers.specs.declared.vendor.VendorFront.{VendorFront}
use Rattle.abt_sections.specs.Header.{Header, OfBoot, OfVendor}
use Rattle.cmd_common_fields.specs.declared.fields.Address.{Address}
use Rattle.cmd_common_fields.specs.declared.fields.Address.TheVariants as addresses
use Rattle.cmd_common_fields.specs.declared.fields.TextField.{TextField}
use Rattle.cmd_common_fields.specs.declared.fields.TextField.TheVariants as texts

-- the bytes of a text, up to its first zero byte
abbrev pub text_of : List ℕ → List ℕ
text_of x = take_while (λ b. not (b == 0)) x

-- ---- names

abbrev pub address_name : Address → List ℕ
address_name addresses.Kernel = codes "kernel"
address_name addresses.Ramdisk = codes "ramdisk"
address_name addresses.Second = codes "second"
address_name addresses.Tags = codes "tags"
address_name addresses.Dtb = codes "dtb"

abbrev pub field_name : TextField → List ℕ
field_name texts.Name = codes "name"
field_name texts.Cmdline = codes "cmdline"
field_name texts.Extra = codes "extra"

-- ---- the fields that a header has

abbrev pub front_address : BootFront → Address → Option ℕ
front_address f addresses.Kernel = Some f.kernel_addr
front_address f addresses.Ramdisk = Some f.ramdisk_addr
front_address f addresses.Second = Some f.second_addr
front_address f addresses.Tags = Some f.tags_addr
front_address f addresses.Dtb = None

abbrev pub dtb_or : ℕ → BootFront → Address → Option ℕ
dtb_or dtb f addresses.Kernel = Some f.kernel_addr
dtb_or dtb f addresses.Ramdisk = Some f.ramdisk_addr
dtb_or dtb f addresses.Second = Some f.second_addr
dtb_or dtb f addresses.Tags = Some f.tags_addr
dtb_or dtb f addresses.Dtb = Some dtb

abbrev pub boot_address : BootHeader → Address → Option ℕ
boot_address (V0 f) a = front_address f a
boot_address (V1 f d) a = front_address f a
boot_address (V2 f d t) a = dtb_or t.dtb_addr f a
boot_address (V3 f) a = None
boot_address (V4 f signature) a = None

abbrev pub vendor_address : VendorFront → Address → Option ℕ
vendor_address f addresses.Kernel = Some f.kernel_addr
vendor_address f addresses.Ramdisk = Some f.ramdisk_addr
vendor_address f addresses.Second = None
vendor_address f addresses.Tags = Some f.tags_addr
vendor_address f addresses.Dtb = Some f.dtb_addr

abbrev pub address_of : Header → Address → Option ℕ
address_of (OfBoot h) a = boot_address h a
address_of (OfVendor v) a = vendor_address v.front a

abbrev pub boot_os : BootHeader → ℕ
boot_os (V0 f) = f.os_version.number
boot_os (V1 f d) = f.os_version.number
boot_os (V2 f d t) = f.os_version.number
boot_os (V3 f) = f.os_version.number
boot_os (V4 f signature) = f.os_version.number

abbrev pub os_number_of : Header → Option ℕ
os_number_of (OfBoot h) = Some (boot_os h)
os_number_of (OfVendor v) = None

abbrev pub front_field : BootFront → TextField → Option (List ℕ)
front_field f texts.Name = Some f.name
front_field f texts.Cmdline = Some f.cmdline
front_field f texts.Extra = Some f.extra_cmdline

abbrev pub cmdline_alone : List ℕ → TextField → Option (List ℕ)
cmdline_alone cmdline texts.Name = None
cmdline_alone cmdline texts.Cmdline = Some cmdline
cmdline_alone cmdline texts.Extra = None

abbrev pub boot_field : BootHeader → TextField → Option (List ℕ)
boot_field (V0 f) t = front_field f t
boot_field (V1 f d) t = front_field f t
boot_field (V2 f d b) t = front_field f t
boot_field (V3 f) t = cmdline_alone f.cmdline t
boot_field (V4 f signature) t = cmdline_alone f.cmdline t

abbrev pub vendor_field : VendorFront → TextField → Option (List ℕ)
vendor_field f texts.Name = Some f.name
vendor_field f texts.Cmdline = Some f.cmdline
vendor_field f texts.Extra = None

abbrev pub field_of : Header → TextField → Option (List ℕ)
field_of (OfBoot h) t = boot_field h t
field_of (OfVendor v) t = vendor_field v.front t

abbrev pub boot_id : BootHeader → Option (List ℕ)
boot_id (V0 f) = Some f.id
boot_id (V1 f d) = Some f.id
boot_id (V2 f d t) = Some f.id
boot_id (V3 f) = None
boot_id (V4 f signature) = None

abbrev pub id_field_of : Header → Option (List ℕ)
id_field_of (OfBoot h) = boot_id h
id_field_of (OfVendor v) = None
