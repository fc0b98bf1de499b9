-- The parts of a boot header: a part that is written is read, and what is read is encoded so.
use Rattle.std.proofs.Common.{◌≡◌, ℕ, ◌<◌, ◌≤◌, ◌^◌, List, length, drop, refl, arith, lit<}
use Rattle.abt_headers.specs.declared.page.PageSize.{PageSize}
use Rattle.abt_headers.specs.declared.boot.BootFront.{BootFront}
use Rattle.abt_headers.specs.declared.boot.DtboFields.{DtboFields}
use Rattle.abt_headers.specs.declared.boot.DtbFields.{DtbFields}
use Rattle.abt_headers.specs.declared.boot.ShortFront.{ShortFront}
use Rattle.abt_headers.specs.Field.{number_at}
use Rattle.abt_headers.specs.Page.{page_bytes}
use Rattle.abt_headers.specs.Boot.{front_fields, dtbo_fields, dtb_fields, short_fields, front_at, dtbo_at, dtb_at}
use Rattle.abt_headers.specs.Boot.{short_at}
use Rattle.abt_headers.specs.Fits.{FrontFits, DtboFits, DtbFits, ShortFits}
use Rattle.abt_headers.proofs.Fields.{IsBytes, next, next_number, part_here, number_here, part_field, field, field_is}
use Rattle.abt_headers.proofs.Fields.{joined_to}
use Rattle.abt_headers.proofs.PageLaws.{page_fits}

-- ---- what was written is read

pub record FrontRead (v : ℕ) (f : BootFront) (x rest : List ℕ) : Type 0 where
  pub magic : number_at 0 8 x ≡ 0x2144494f52444e41
  pub page : number_at 36 4 x ≡ page_bytes f.page_size
  pub version : number_at 40 4 x ≡ v
  pub front : front_at f.page_size x ≡ f
  pub behind : drop 1632 x ≡ rest

pub front_again : (v : ℕ) (f : BootFront) (x rest : List ℕ) → v < 2 ^ 32 → FrontFits f
    → x ≡ joined_to (front_fields v f) rest → FrontRead v f x rest
unfolding front_at
front_again v f x rest small fits e0 =
    let f0 = number_here 0 8 0x2144494f52444e41 x _ e0 (lit< tt) in
    let e8 = next_number 0 8 0x2144494f52444e41 x _ e0 in
    let f8 = number_here 8 4 f.kernel_size x _ e8 fits.kernel_size in
    let e12 = next_number 8 4 f.kernel_size x _ e8 in
    let f12 = number_here 12 4 f.kernel_addr x _ e12 fits.kernel_addr in
    let e16 = next_number 12 4 f.kernel_addr x _ e12 in
    let f16 = number_here 16 4 f.ramdisk_size x _ e16 fits.ramdisk_size in
    let e20 = next_number 16 4 f.ramdisk_size x _ e16 in
    let f20 = number_here 20 4 f.ramdisk_addr x _ e20 fits.ramdisk_addr in
    let e24 = next_number 20 4 f.ramdisk_addr x _ e20 in
    let f24 = number_here 24 4 f.second_size x _ e24 fits.second_size in
    let e28 = next_number 24 4 f.second_size x _ e24 in
    let f28 = number_here 28 4 f.second_addr x _ e28 fits.second_addr in
    let e32 = next_number 28 4 f.second_addr x _ e28 in
    let f32 = number_here 32 4 f.tags_addr x _ e32 fits.tags_addr in
    let e36 = next_number 32 4 f.tags_addr x _ e32 in
    let f36 = number_here 36 4 (page_bytes f.page_size) x _ e36 (page_fits f.page_size) in
    let e40 = next_number 36 4 (page_bytes f.page_size) x _ e36 in
    let f40 = number_here 40 4 v x _ e40 small in
    let e44 = next_number 40 4 v x _ e40 in
    let f44 = number_here 44 4 f.os_version.number x _ e44 fits.os_version in
    let e48 = next_number 44 4 f.os_version.number x _ e44 in
    let f48 = part_here 48 16 x f.name _ e48 fits.name in
    let e64 = next 48 16 x f.name _ e48 fits.name in
    let f64 = part_here 64 512 x f.cmdline _ e64 fits.cmdline in
    let e576 = next 64 512 x f.cmdline _ e64 fits.cmdline in
    let f576 = part_here 576 32 x f.id _ e576 fits.id in
    let e608 = next 576 32 x f.id _ e576 fits.id in
    let f608 = part_here 608 1024 x f.extra_cmdline _ e608 fits.extra_cmdline in
    let e1632 = next 608 1024 x f.extra_cmdline _ e608 fits.extra_cmdline in
    record {
      magic = f0;
      page = f36;
      version = f40;
      behind = e1632;
      front = rw (
        f8,
        f12,
        f16,
        f20,
        f24,
        f28,
        f32,
        f44,
        f48,
        f64,
        f576,
        f608,
      ) refl;
    }

pub dtbo_again : (d : DtboFields) (x rest : List ℕ) → DtboFits d → drop 1632 x ≡ joined_to (dtbo_fields d) rest
    → (dtbo_at x ≡ d) × (drop 1648 x ≡ rest)
unfolding dtbo_at
dtbo_again d x rest fits e1632 =
    let f1632 = number_here 1632 4 d.recovery_dtbo_size x _ e1632 fits.recovery_dtbo_size in
    let e1636 = next_number 1632 4 d.recovery_dtbo_size x _ e1632 in
    let f1636 = number_here 1636 8 d.recovery_dtbo_offset x _ e1636 fits.recovery_dtbo_offset in
    let e1644 = next_number 1636 8 d.recovery_dtbo_offset x _ e1636 in
    let f1644 = number_here 1644 4 d.header_size x _ e1644 fits.header_size in
    let e1648 = next_number 1644 4 d.header_size x _ e1644 in
    (rw (f1632, f1636, f1644) refl, e1648)

pub dtb_again : (d : DtbFields) (x rest : List ℕ) → DtbFits d → drop 1648 x ≡ joined_to (dtb_fields d) rest
    → (dtb_at x ≡ d) × (drop 1660 x ≡ rest)
unfolding dtb_at
dtb_again d x rest fits e1648 =
    let f1648 = number_here 1648 4 d.dtb_size x _ e1648 fits.dtb_size in
    let e1652 = next_number 1648 4 d.dtb_size x _ e1648 in
    let f1652 = number_here 1652 8 d.dtb_addr x _ e1652 fits.dtb_addr in
    let e1660 = next_number 1652 8 d.dtb_addr x _ e1652 in
    (rw (f1648, f1652) refl, e1660)

pub record ShortRead (v : ℕ) (f : ShortFront) (x rest : List ℕ) : Type 0 where
  pub magic : number_at 0 8 x ≡ 0x2144494f52444e41
  pub version : number_at 40 4 x ≡ v
  pub front : short_at x ≡ f
  pub behind : drop 1580 x ≡ rest

pub short_again : (v : ℕ) (f : ShortFront) (x rest : List ℕ) → v < 2 ^ 32 → ShortFits f
    → x ≡ joined_to (short_fields v f) rest → ShortRead v f x rest
unfolding short_at
short_again v f x rest small fits e0 =
    let f0 = number_here 0 8 0x2144494f52444e41 x _ e0 (lit< tt) in
    let e8 = next_number 0 8 0x2144494f52444e41 x _ e0 in
    let f8 = number_here 8 4 f.kernel_size x _ e8 fits.kernel_size in
    let e12 = next_number 8 4 f.kernel_size x _ e8 in
    let f12 = number_here 12 4 f.ramdisk_size x _ e12 fits.ramdisk_size in
    let e16 = next_number 12 4 f.ramdisk_size x _ e12 in
    let f16 = number_here 16 4 f.os_version.number x _ e16 fits.os_version in
    let e20 = next_number 16 4 f.os_version.number x _ e16 in
    let f20 = number_here 20 4 f.header_size x _ e20 fits.header_size in
    let e24 = next_number 20 4 f.header_size x _ e20 in
    let f24 = part_here 24 16 x f.reserved _ e24 fits.reserved in
    let e40 = next 24 16 x f.reserved _ e24 fits.reserved in
    let f40 = number_here 40 4 v x _ e40 small in
    let e44 = next_number 40 4 v x _ e40 in
    let f44 = part_here 44 1536 x f.cmdline _ e44 fits.cmdline in
    let e1580 = next 44 1536 x f.cmdline _ e44 fits.cmdline in
    record { magic = f0; version = f40; behind = e1580; front = rw (f8, f12, f16, f20, f24, f44) refl }

-- ---- what is read is encoded so

pub front_back : (v : ℕ) (p : PageSize) (x rest : List ℕ) → 1632 ≤ length x → IsBytes x
    → number_at 0 8 x ≡ 0x2144494f52444e41 → number_at 36 4 x ≡ page_bytes p → number_at 40 4 x ≡ v → rest ≡ drop 1632 x
    → joined_to (front_fields v (front_at p x)) rest ≡ x
unfolding front_at
front_back v p x rest h k is0 is36 is40 e =
    let e608 = part_field 608 1024 x _ e in
    let e576 = part_field 576 32 x _ e608 in
    let e64 = part_field 64 512 x _ e576 in
    let e48 = part_field 48 16 x _ e64 in
    let e44 = field 44 4 x _ (omega arith) k e48 in
    let e40 = field_is 40 4 _ x _ (omega arith) k is40 e44 in
    let e36 = field_is 36 4 _ x _ (omega arith) k is36 e40 in
    let e32 = field 32 4 x _ (omega arith) k e36 in
    let e28 = field 28 4 x _ (omega arith) k e32 in
    let e24 = field 24 4 x _ (omega arith) k e28 in
    let e20 = field 20 4 x _ (omega arith) k e24 in
    let e16 = field 16 4 x _ (omega arith) k e20 in
    let e12 = field 12 4 x _ (omega arith) k e16 in
    let e8 = field 8 4 x _ (omega arith) k e12 in
    let e0 = field_is 0 8 _ x _ (omega arith) k is0 e8 in
    e0

pub dtbo_back : (x rest : List ℕ) → 1648 ≤ length x → IsBytes x → rest ≡ drop 1648 x
    → joined_to (dtbo_fields (dtbo_at x)) rest ≡ drop 1632 x
unfolding dtbo_at
dtbo_back x rest h k e =
    let e1644 = field 1644 4 x _ (omega arith) k e in
    let e1636 = field 1636 8 x _ (omega arith) k e1644 in
    let e1632 = field 1632 4 x _ (omega arith) k e1636 in
    e1632

pub dtb_back : (x rest : List ℕ) → 1660 ≤ length x → IsBytes x → rest ≡ drop 1660 x
    → joined_to (dtb_fields (dtb_at x)) rest ≡ drop 1648 x
unfolding dtb_at
dtb_back x rest h k e =
    let e1652 = field 1652 8 x _ (omega arith) k e in
    let e1648 = field 1648 4 x _ (omega arith) k e1652 in
    e1648

pub short_back : (v : ℕ) (x rest : List ℕ) → 1580 ≤ length x → IsBytes x → number_at 0 8 x ≡ 0x2144494f52444e41
    → number_at 40 4 x ≡ v → rest ≡ drop 1580 x
    → joined_to (short_fields v (short_at x)) rest ≡ x
unfolding short_at
short_back v x rest h k is0 is40 e =
    let e44 = part_field 44 1536 x _ e in
    let e40 = field_is 40 4 _ x _ (omega arith) k is40 e44 in
    let e24 = part_field 24 16 x _ e40 in
    let e20 = field 20 4 x _ (omega arith) k e24 in
    let e16 = field 16 4 x _ (omega arith) k e20 in
    let e12 = field 12 4 x _ (omega arith) k e16 in
    let e8 = field 8 4 x _ (omega arith) k e12 in
    let e0 = field_is 0 8 _ x _ (omega arith) k is0 e8 in
    e0
