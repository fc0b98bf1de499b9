-- Sections at their places in a list.
use Rattle.std.proofs.Common.{◌≡◌, ◌≤◌, ◌<◌, ℕ, zero, suc, List, [], ◌∷◌, length, get_or, refl, sym, arith, ap, Option}
use Rattle.std.proofs.Common.{Some, None}
use Rattle.abt_headers.specs.declared.sections.SectionPlace.{SectionPlace}
use Rattle.abt_headers.specs.declared.boot.BootHeader.{BootHeader}
use Rattle.abt_headers.specs.declared.boot.BootHeader.TheVariants.{V0, V1, V2, V3, V4}
use Rattle.abt_headers.specs.declared.vendor.VendorFront.{VendorFront}
use Rattle.abt_headers.specs.Boot.{boot_places}
use Rattle.abt_headers.specs.Vendor.{Tail, Vendor, vendor_places}
use Rattle.abt_c.specs.Told.{no_section, section_at, section_told}

pub section_is : (ps : List SectionPlace) (i : ℕ) (q : SectionPlace) → i < length ps → q ≡ get_or ps i q
    → section_at ps i ≡ section_told q
section_is [] i q lt e = absurd (omega (arith, lt))
section_is (p ∷ ps) zero q lt e = ap section_told (sym e)
section_is (p ∷ ps) (suc i) q lt e = section_is ps i q (omega (arith, lt)) e

pub section_past : (ps : List SectionPlace) (i : ℕ) → length ps ≤ i → section_at ps i ≡ no_section
section_past [] i le = refl
section_past (p ∷ ps) zero le = absurd (omega (arith, le))
section_past (p ∷ ps) (suc i) le = section_past ps i (omega (arith, le))

-- no image has more than five
pub boot_few : (h : BootHeader) → length (boot_places h) ≤ 5
boot_few (V0 f) = omega arith
boot_few (V1 f d) = omega arith
boot_few (V2 f d t) = omega arith
boot_few (V3 f) = omega arith
boot_few (V4 f n) = omega arith

tail_few : (f : VendorFront) (t : Option Tail) → length (vendor_places (record { front = f; tail = t })) ≤ 5
tail_few f None = omega arith
tail_few f (Some t) = omega arith

pub vendor_few : (h : Vendor) → length (vendor_places h) ≤ 5
vendor_few h = tail_few h.front h.tail
