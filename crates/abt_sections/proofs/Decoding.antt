-- A header that is read is at the beginning, with fields that fit; and one that is there is read.
use Rattle.std.proofs.Common.{◌≡◌, ℕ, zero, suc, ◌+◌, ◌*◌, ◌≤◌, ◌<◌, ◌^◌, Bool, true, false, cond, not, ◌||◌, ◌==◌}
use Rattle.std.proofs.Common.{nat_le, inl, inr, List, ◌++◌, length, take, drop, sym, ap, subst, ◌∙◌, arith, lit<, None}
use Rattle.std.proofs.Common.{Result, Ok, Err}
use Rattle.std.specs.Prelude.{slice_index}
use Rattle.std.proofs.Math.Nat.{pow-succ'}
use Rattle.std.proofs.lemmas.Bool.{and_from, and_right, or_parts, eqb-true, le-leb}
use Rattle.std.proofs.lemmas.List.{take_at}
use Rattle.byteorder.specs.Endian.{little_from}
use Rattle.abt_headers.specs.declared.fault.HeaderFault.{HeaderFault}
use Rattle.abt_headers.specs.declared.fault.HeaderFault.TheVariants as faults
use Rattle.abt_headers.specs.declared.page.PageSize.{PageSize}
use Rattle.abt_headers.specs.declared.boot.BootHeader.{BootHeader}
use Rattle.abt_headers.specs.declared.boot.BootHeader.TheVariants.{V0, V1, V2, V3, V4}
use Rattle.abt_headers.specs.Fault.{needing, mapped, both}
use Rattle.abt_headers.specs.Field.{number_at, part_at}
use Rattle.abt_headers.specs.Page.{page_at}
use Rattle.abt_headers.specs.Boot.{boot_at, boot_of, boot_record, boot_size, boot_field_list, front_at, dtbo_at, dtb_at}
use Rattle.abt_headers.specs.Boot.{short_at}
use Rattle.abt_headers.specs.Fits.{FrontFits, DtboFits, DtbFits, ShortFits, BootFits}
use Rattle.abt_headers.specs.Vendor.{Tail, Vendor, vendor_at, vendor_of, vendor_record, vendor_size, all_fields}
use Rattle.abt_headers.specs.Vendor.{vendor_front_at, tail_at, tail_or_fault}
use Rattle.abt_headers.specs.VendorFits.{VendorFrontFits, TailFits, VendorFits}
use Rattle.abt_headers.proofs.Fields.{IsBytes, IsBytes-drop, joined_rest}
use Rattle.abt_headers.proofs.PageLaws.{needing-from, guard, page_was}
use Rattle.abt_headers.proofs.BootLaws as boot
use Rattle.abt_headers.proofs.VendorLaws as vendor
use Rattle.abt_sections.specs.Header.{Header, OfBoot, OfVendor, HeaderFits, record_of, size_of, is_vendor}
use Rattle.abt_sections.specs.Header.{image_header_at}
use Rattle.abt_sections.proofs.Digests.{there_length}

-- ---- numbers and texts of bytes

small_from : (i n : ℕ) (y : List ℕ) → IsBytes y → little_from i n y < 256 ^ n
small_from i zero y k = lit< tt
small_from i (suc n) y k =
    let b : slice_index y i < 256 = k i in
    let r : little_from (suc i) n y < 256 ^ n = small_from (suc i) n y k in
    let e : 256 ^ suc n ≡ 256 * 256 ^ n = pow-succ' 256 n in
    omega (arith, b, r, e)

pub number_small : (p n : ℕ) (x : List ℕ) → IsBytes x → number_at p n x < 256 ^ n
number_small p n x k = small_from 0 n (drop p x) (IsBytes-drop p x k)

pub part_long : (p n : ℕ) (x : List ℕ) → p + n ≤ length x → length (part_at p n x) ≡ n
part_long p n x h = there_length x p n (λ _. h)

-- ---- the boot header

front_fits : (p : PageSize) (x : List ℕ) → 1632 ≤ length x → IsBytes x → FrontFits (front_at p x)
unfolding front_at
front_fits p x h k = record {
  kernel_size = number_small 8 4 x k;
  kernel_addr = number_small 12 4 x k;
  ramdisk_size = number_small 16 4 x k;
  ramdisk_addr = number_small 20 4 x k;
  second_size = number_small 24 4 x k;
  second_addr = number_small 28 4 x k;
  tags_addr = number_small 32 4 x k;
  os_version = number_small 44 4 x k;
  name = part_long 48 16 x (omega arith);
  cmdline = part_long 64 512 x (omega arith);
  id = part_long 576 32 x (omega arith);
  extra_cmdline = part_long 608 1024 x (omega arith);
}

dtbo_fits : (x : List ℕ) → IsBytes x → DtboFits (dtbo_at x)
unfolding dtbo_at
dtbo_fits x k = record {
  recovery_dtbo_size = number_small 1632 4 x k;
  recovery_dtbo_offset = number_small 1636 8 x k;
  header_size = number_small 1644 4 x k;
}

dtb_fits : (x : List ℕ) → IsBytes x → DtbFits (dtb_at x)
unfolding dtb_at
dtb_fits x k = record { dtb_size = number_small 1648 4 x k; dtb_addr = number_small 1652 8 x k }

short_fits : (x : List ℕ) → 1580 ≤ length x → IsBytes x → ShortFits (short_at x)
unfolding short_at
short_fits x h k = record {
  kernel_size = number_small 8 4 x k;
  ramdisk_size = number_small 12 4 x k;
  os_version = number_small 16 4 x k;
  header_size = number_small 20 4 x k;
  reserved = part_long 24 16 x (omega arith);
  cmdline = part_long 44 1536 x (omega arith);
}

abbrev ok_boot : BootHeader → Result BootHeader HeaderFault
ok_boot h = Ok h

boot_same : (g h : BootHeader) → ok_boot g ≡ ok_boot h → g ≡ h
boot_same g h e = cc

module _ (x : List ℕ) (k : IsBytes x) where
  fits_0 : (h : BootHeader) → mapped (needing 1632 x (page_at 36 x)) (λ p. V0 (front_at p x)) ≡ Ok h → BootFits h
  fits_0 h e =
      let m = boot.mapped-from _ _ h e in
      let p = page_was 1632 36 x m.0 m.1 in
      subst (λ (g : BootHeader). BootFits g) m.2 (front_fits m.0 x p.0 k)

  fits_1 : (h : BootHeader) → mapped (needing 1648 x (page_at 36 x)) (λ p. V1 (front_at p x) (dtbo_at x)) ≡ Ok h
      → BootFits h
  fits_1 h e =
      let m = boot.mapped-from _ _ h e in
      let p = page_was 1648 36 x m.0 m.1 in
      subst (λ (g : BootHeader). BootFits g) m.2 (front_fits m.0 x (omega (arith, p.0)) k, dtbo_fits x k)

  fits_2 : (h : BootHeader) → mapped (needing 1660 x (page_at 36 x)) (λ p. V2 (front_at p x) (dtbo_at x) (dtb_at x))
      ≡ Ok h → BootFits h
  fits_2 h e =
      let m = boot.mapped-from _ _ h e in
      let p = page_was 1660 36 x m.0 m.1 in
      subst (λ (g : BootHeader). BootFits g) m.2 (front_fits m.0 x (omega (arith, p.0)) k, dtbo_fits x k, dtb_fits x k)

  fits_3 : (h : BootHeader) → needing 1580 x (Ok (V3 (short_at x))) ≡ Ok h → BootFits h
  fits_3 h e =
      let s = needing-from 1580 x (Ok (V3 (short_at x))) h e in
      subst (λ (g : BootHeader). BootFits g) (boot_same _ h s.1) (short_fits x s.0 k)

  fits_4 : (h : BootHeader) → needing 1584 x (Ok (V4 (short_at x) (number_at 1580 4 x))) ≡ Ok h → BootFits h
  fits_4 h e =
      let s = needing-from 1584 x (Ok (V4 (short_at x) (number_at 1580 4 x))) h e in
      subst (λ (g : BootHeader). BootFits g) (boot_same _ h s.1) (
        short_fits x (omega (arith, s.0)) k,
        number_small 1580 4 x k,
      )

  fits_of : (v : ℕ) (h : BootHeader) → boot_of v x ≡ Ok h → BootFits h
  unfolding boot_of
  fits_of v h e =
      elim (boot.either (v == 0) _ _ h e) [
        | inl a ↦ fits_0 h a.1
        | inr e1 ↦ elim (boot.either (v == 1) _ _ h e1) [
          | inl a ↦ fits_1 h a.1
          | inr e2 ↦ elim (boot.either (v == 2) _ _ h e2) [
            | inl a ↦ fits_2 h a.1
            | inr e3 ↦ elim (boot.either (v == 3) _ _ h e3) [
              | inl a ↦ fits_3 h a.1
              | inr e4 ↦ elim (boot.either (v == 4) _ _ h e4) [
                | inl a ↦ fits_4 h a.1
                | inr e5 ↦ absurd cc
              ]
            ]
          ]
        ]
      ]

-- what reading a boot header tested first
record BootBegun (x : List ℕ) (h : BootHeader) : Type 0 where
  magic : number_at 0 8 x ≡ 0x2144494f52444e41
  rest : boot_of (number_at 40 4 x) x ≡ Ok h

boot_begun : (x : List ℕ) (h : BootHeader) → boot_at x ≡ Ok h → BootBegun x h
unfolding boot_at
boot_begun x h e =
    let s = needing-from 8 x _ h e in
    let m = guard (not (number_at 0 8 x == 0x2144494f52444e41)) faults.Magic _ h s.1 in
    let t = needing-from 44 x _ h m.1 in
    record { magic = eqb-true _ _ (boot.not-false' _ m.0); rest = t.1 }

boot_fits : (x : List ℕ) (h : BootHeader) → IsBytes x → boot_at x ≡ Ok h → BootFits h
boot_fits x h k e = fits_of x k (number_at 40 4 x) h (boot_begun x h e).rest

-- ---- the vendor header

vendor_front_fits : (p : PageSize) (x : List ℕ) → 2112 ≤ length x → IsBytes x → VendorFrontFits (vendor_front_at p x)
unfolding vendor_front_at
vendor_front_fits p x h k = record {
  kernel_addr = number_small 16 4 x k;
  ramdisk_addr = number_small 20 4 x k;
  vendor_ramdisk_size = number_small 24 4 x k;
  cmdline = part_long 28 2048 x (omega arith);
  tags_addr = number_small 2076 4 x k;
  name = part_long 2080 16 x (omega arith);
  header_size = number_small 2096 4 x k;
  dtb_size = number_small 2100 4 x k;
  dtb_addr = number_small 2104 8 x k;
}

abbrev ok_tail : Tail → Result Tail HeaderFault
ok_tail t = Ok t

tail_same : (t u : Tail) → ok_tail t ≡ ok_tail u → t ≡ u
tail_same t u e = cc

tail_numbers : (x : List ℕ) → IsBytes x → (tail_at x).entry_size ≡ 108
    → (tail_at x).table_size ≡ 108 * (tail_at x).entry_num → TailFits (tail_at x)
unfolding tail_at
tail_numbers x k e w = record {
  table_size = number_small 2112 4 x k;
  entry_num = number_small 2116 4 x k;
  entry_size = number_small 2120 4 x k;
  bootconfig_size = number_small 2124 4 x k;
  entries = e;
  whole = w;
}

tail_fits : (x : List ℕ) (u : Tail) → IsBytes x → tail_or_fault x ≡ Ok u → TailFits u
tail_fits x u k e =
    let t = tail_at x in
    let g = guard (not (t.entry_size == 108) || not (t.table_size == 108 * t.entry_num)) faults.Table (Ok t) u e in
    let p = or_parts (not (t.entry_size == 108)) (not (t.table_size == 108 * t.entry_num)) g.0 in
    subst (λ (w : Tail). TailFits w) (tail_same t u g.1) (tail_numbers x k (eqb-true _ _ (boot.not-false' _ p.0))
    (eqb-true _ _ (boot.not-false' _ p.1)))

abbrev ok_page : PageSize → Result PageSize HeaderFault
ok_page p = Ok p

both_from : (r : Result PageSize HeaderFault) (s : Result Tail HeaderFault) (q : PageSize × Tail) → both r s ≡ Ok q
    → (r ≡ Ok q.0) × (s ≡ Ok q.1)
both_from (Ok p) (Ok t) q e = let same : (p, t) ≡ q = cc in
    (ap (λ (w : PageSize × Tail). ok_page w.0) same, ap (λ (w : PageSize × Tail). ok_tail w.1) same)
both_from (Ok p) (Err c) q e = absurd cc
both_from (Err d) s q e = absurd cc

module _ (x : List ℕ) (k : IsBytes x) where
  vendor_fits_3 : (v : Vendor)
      → mapped (needing 2112 x (page_at 12 x)) (λ p. record { front = vendor_front_at p x; tail = None }) ≡ Ok v
      → VendorFits v
  vendor_fits_3 v e =
      let m = boot.mapped-from _ _ v e in
      let p = page_was 2112 12 x m.0 m.1 in
      subst (λ (g : Vendor). VendorFits g) m.2 (vendor_front_fits m.0 x p.0 k, tt)

  vendor_fits_4 : (v : Vendor)
      → mapped (both (needing 2128 x (page_at 12 x)) (tail_or_fault x)) (vendor.whole x) ≡ Ok v → VendorFits v
  vendor_fits_4 v e =
      let m = boot.mapped-from _ _ v e in
      let b = both_from _ _ m.0 m.1 in
      let p = page_was 2128 12 x m.0.0 b.0 in
      subst (λ (g : Vendor). VendorFits g) m.2 (
        vendor_front_fits m.0.0 x (omega (arith, p.0)) k,
        tail_fits x m.0.1 k b.1,
      )

  vendor_fits_of : (n : ℕ) (v : Vendor) → vendor_of n x ≡ Ok v → VendorFits v
  unfolding vendor_of
  vendor_fits_of n v e =
      elim (boot.either (n == 3) _ _ v e) [
        | inl a ↦ vendor_fits_3 v a.1
        | inr e1 ↦ elim (boot.either (n == 4) _ _ v e1) [
          | inl a ↦ vendor_fits_4 v a.1
          | inr e2 ↦ absurd cc
        ]
      ]

record VendorBegun (x : List ℕ) (v : Vendor) : Type 0 where
  some : 8 ≤ length x
  magic : (number_at 0 8 x == 0x544f4f4252444e56) ≡ true
  rest : vendor_of (number_at 8 4 x) x ≡ Ok v

vendor_begun : (x : List ℕ) (v : Vendor) → vendor_at x ≡ Ok v → VendorBegun x v
unfolding vendor_at
vendor_begun x v e =
    let s = needing-from 8 x _ v e in
    let m = guard (not (number_at 0 8 x == 0x544f4f4252444e56)) faults.Magic _ v s.1 in
    let t = needing-from 12 x _ v m.1 in
    record { some = s.0; magic = boot.not-false' _ m.0; rest = t.1 }

-- ---- either kind

-- what a header that was read is
pub record Decoded (x : List ℕ) (h : Header) : Type 0 where
  pub fits : HeaderFits h
  pub size : size_of h ≤ length x
  pub begins : take (size_of h) x ≡ record_of h

begins_with : (x r rest : List ℕ) (n : ℕ) → length r ≡ n → r ++ rest ≡ x → take n x ≡ r
begins_with x r rest n e is = ap (take n) (sym is) ∙ take_at r rest n e

boot_decoded : (x : List ℕ) (h : BootHeader) → IsBytes x → boot_at x ≡ Ok h → Decoded x (OfBoot h)
unfolding boot_record
boot_decoded x h k e =
    let s = boot.boot_back x h k e in
    let fits = boot_fits x h k e in
    record {
      fits = fits;
      size = s.size;
      begins = begins_with x (boot_record h) (drop (boot_size h) x) (boot_size h)
          (boot.record_length h fits) (joined_rest (boot_field_list h) (drop (boot_size h) x) ∙ s.bytes);
    }

vendor_decoded : (x : List ℕ) (v : Vendor) → IsBytes x → vendor_at x ≡ Ok v → Decoded x (OfVendor v)
unfolding vendor_record
vendor_decoded x v k e =
    let s = vendor.vendor_back x v k e in
    let fits = vendor_fits_of x k (number_at 8 4 x) v (vendor_begun x v e).rest in
    record {
      fits = fits;
      size = s.size;
      begins = begins_with x (vendor_record v) (drop (vendor_size v) x)
          (vendor_size v) (vendor.record_length v fits)
          (joined_rest (all_fields v.front v.tail) (drop (vendor_size v) x) ∙ s.bytes);
    }

pub decoded : (x : List ℕ) (h : Header) → IsBytes x → image_header_at x ≡ Ok h → Decoded x h
decoded x h k e = elim (boot.either (is_vendor x) (mapped (vendor_at x) (λ v. OfVendor v))
    (mapped (boot_at x) (λ b. OfBoot b)) h e) [
      | inl a ↦ (let m = boot.mapped-from (vendor_at x) (λ v. OfVendor v) h a.1 in
          subst (λ (g : Header). Decoded x g) m.2 (vendor_decoded x m.0 k m.1))
      | inr a ↦ (let m = boot.mapped-from (boot_at x) (λ b. OfBoot b) h a in
          subst (λ (g : Header). Decoded x g) m.2 (boot_decoded x m.0 k m.1))
    ]

-- ---- and back

again_boot : (x : List ℕ) (h : BootHeader) → boot_at x ≡ Ok h → image_header_at x ≡ Ok (OfBoot h)
again_boot x h e =
    let m = (boot_begun x h e).magic in
    let other : is_vendor x ≡ false = and_right (nat_le 8 (length x)) _ (ap (λ (n : ℕ). n == 0x544f4f4252444e56) m) in
    ap (λ (b : Bool). cond b (mapped (vendor_at x) (λ v. OfVendor v)) (mapped (boot_at x) (λ b. OfBoot b))) other
    ∙ ap (λ (r : Result BootHeader HeaderFault). mapped r (λ b. OfBoot b)) e

again_vendor : (x : List ℕ) (v : Vendor) → vendor_at x ≡ Ok v → image_header_at x ≡ Ok (OfVendor v)
again_vendor x v e =
    let b = vendor_begun x v e in
    let this : is_vendor x ≡ true = and_from (nat_le 8 (length x)) _ (le-leb 8 (length x) b.some) b.magic in
    ap (λ (b : Bool). cond b (mapped (vendor_at x) (λ v. OfVendor v)) (mapped (boot_at x) (λ b. OfBoot b))) this
    ∙ ap (λ (r : Result Vendor HeaderFault). mapped r (λ v. OfVendor v)) e

pub header_again : (x : List ℕ) (h : Header) (rest : List ℕ) → HeaderFits h → x ≡ record_of h ++ rest
    → image_header_at x ≡ Ok h
header_again x (OfBoot h) rest fits e = again_boot x h (ap boot_at e ∙ boot.record_again h rest fits)
header_again x (OfVendor v) rest fits e = again_vendor x v (ap vendor_at e ∙ vendor.record_again v rest fits)
