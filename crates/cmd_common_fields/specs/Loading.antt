-- Where the parts of a boot image are loaded.
use Rattle.std.specs.Prelude.{ℕ, ◌+◌, ◌^◌, nat_lt, if◌then◌else◌, Bool, true, false, Option, Some, None, ◌&&◌, not}
use Rattle.std.specs.Prelude.{is_some}
use Rattle.cmd_common_fields.specs.declared.fields.Address.{Address}
use Rattle.cmd_common_fields.specs.declared.fields.Address.TheVariants.{Kernel, Ramdisk, Second, Tags, Dtb}
use Rattle.cmd_common_fields.specs.declared.loading.AddressWords.{AddressWords}

-- mkbootimg's offset of an address from the base
abbrev pub usual_offset : Address → ℕ
usual_offset Kernel = 0x8000
usual_offset Ramdisk = 0x1000000
usual_offset Second = 0xf00000
usual_offset Tags = 0x100
usual_offset Dtb = 0x1f00000

-- the greatest address that a header has room for
abbrev pub most_address : Address → ℕ
most_address Kernel = 0xffffffff
most_address Ramdisk = 0xffffffff
most_address Second = 0xffffffff
most_address Tags = 0xffffffff
most_address Dtb = 0xffffffffffffffff

-- the base that is given, or mkbootimg's where any offset is given
abbrev pub base_for : Option ℕ → Bool → Option ℕ
base_for (Some base) has_offset = Some base
base_for None true = Some 0x10000000
base_for None false = None

-- there is a base, and the address isn't given
abbrev pub is_sum : AddressWords → Bool
is_sum w = not (is_some w.address) && is_some w.base

-- where it has room in 64 bits
abbrev pub in_64_bits : ℕ → Option ℕ
in_64_bits n = if nat_lt n (2 ^ 64) then Some n else None

abbrev pub offset_or : Option ℕ → ℕ → ℕ
offset_or (Some offset) usual = offset
offset_or None usual = usual

-- the address, or the base and its offset, or its own
abbrev pub load_from : Option ℕ → Option ℕ → ℕ → ℕ → Option ℕ
load_from (Some address) base offset own = Some address
load_from None (Some base) offset own = in_64_bits (base + offset)
load_from None None offset own = Some own

abbrev pub load_at : AddressWords → ℕ → ℕ → Option ℕ
load_at w usual own = load_from w.address w.base (offset_or w.offset usual) own
