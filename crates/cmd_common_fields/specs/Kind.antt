-- The kinds of boot images, each with its header versions.
use Rattle.std.specs.Prelude.{ℕ, ◌&&◌, nat_lt, Bool, true, false}
use Rattle.abt_headers.specs.Boot.{boot_version}
use Rattle.abt_headers.specs.Vendor.{vendor_version}
use Rattle.abt_sections.specs.Header.{Header, OfBoot, OfVendor}
use Rattle.cmd_common_fields.specs.declared.image_kind.ImageKind.{ImageKind}
use Rattle.cmd_common_fields.specs.declared.image_kind.ImageKind.TheVariants.{Boot, Vendor}

-- the header versions of boot images, and of vendor boot images
abbrev pub is_version : Bool → ℕ → Bool
is_version false n = nat_lt n 5
is_version true n = nat_lt 2 n && nat_lt n 5

abbrev pub kind_for : Bool → ℕ → ImageKind
kind_for false n = Boot n
kind_for true n = Vendor n

abbrev pub version_of : ImageKind → ℕ
version_of (Boot n) = n
version_of (Vendor n) = n

-- the kind of a header
abbrev pub kind_of : Header → ImageKind
kind_of (OfBoot h) = Boot (boot_version h)
kind_of (OfVendor v) = Vendor (vendor_version v)
