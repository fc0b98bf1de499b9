-- A canonical image is packed again of the fields of its header and the parts in its sections.
use Rattle.std.proofs.Common.{◌≡◌, ℕ, zero, suc, ◌≤◌, ◌<◌, inl, inr, List, [], ◌∷◌, ◌++◌, length, take, drop}
use Rattle.std.proofs.Common.{slice_index_or, map, refl, sym, ap, subst, ◌∙◌, arith, append-nil, Some, None, Result, Ok}
use Rattle.std.proofs.Common.{rules}
use Rattle.std.specs.List.{concat}
use Rattle.std.proofs.lemmas.List.{take_all}
use Rattle.abt_headers.specs.declared.boot.BootHeader.{BootHeader}
use Rattle.abt_headers.specs.declared.fault.HeaderFault.{HeaderFault}
use Rattle.abt_headers.specs.Vendor.{Vendor}
use Rattle.abt_sections.specs.declared.spec.FragmentSpec.{FragmentSpec}
use Rattle.abt_sections.specs.BootCanon.{boot_canon, boot_header_of, boot_image, boot_image_with}
use Rattle.abt_sections.specs.Canonical.{IsBootInput, IsVendorInput, StartsAsBoot, StartsAsPacked, StartsAsVendor}
use Rattle.abt_sections.specs.Canonical.{StartsWith}
use Rattle.abt_sections.specs.Fields.{BootFields, VendorFields}
use Rattle.abt_sections.specs.Header.{Header, OfBoot, OfVendor, entry_of, fragment_of, image_header_at, places_of}
use Rattle.abt_sections.specs.Layout.{parts_of}
use Rattle.abt_sections.specs.Open.{HasImage}
use Rattle.abt_sections.specs.Unpacked.{HoldsBoot, HoldsFragment, HoldsVendor}
use Rattle.abt_sections.specs.VendorCanon.{VendorParts, vendor_canon, vendor_header_of, vendor_image, vendor_parts}
use Rattle.abt_sections.specs.VendorCanon.{vendor_sections_for, vendor_sizes_for, table_for, tail_for}
use Rattle.abt_sections.proofs.Starting.{continues}
use Rattle.law_boot.specs.Said.{boot_fields_of, vendor_fields_of}
use Rattle.law_boot.specs.WayBack.{PacksFromParts, PacksBoot, PacksVendor, boot_parts_of, ramdisks_of, spec_of}
use Rattle.law_boot.specs.WayBack.{specs_of, vendor_part, vendor_parts_of, vendor_parts_with}
use Rattle.law_boot.proofs.PackedFields.{MakesVendor, boot_again, three_or_four, vendor_again}

-- ---- what the laws of packing say

abbrev pub BootHolds : Type 0
BootHolds = (s : BootFields) (parts : List (List ℕ)) (rest : List ℕ) → IsBootInput s parts
    → HoldsBoot (boot_canon s parts ++ rest) s parts

abbrev pub VendorHolds : Type 0
VendorHolds = (s : VendorFields) (p : VendorParts) (rest : List ℕ) → IsVendorInput s p
    → HoldsVendor (vendor_canon s p ++ rest) s p

abbrev pub FragmentsHold : Type 0
FragmentsHold = (s : VendorFields) (p : VendorParts) (rest : List ℕ) (i : ℕ) → IsVendorInput s p → s.version ≡ 4
    → i < length p.ramdisks
    → HoldsFragment (vendor_canon s p ++ rest) (OfVendor (vendor_header_of s p)) p.fragments p.ramdisks i

-- ---- one header stands at the front

ok_same : (a b : Header) (r : Result Header HeaderFault) → r ≡ Ok a → r ≡ Ok b → a ≡ b
ok_same a b r e f = let g : (let p : Result Header HeaderFault = Ok a in let q : Result Header HeaderFault = Ok b in p
    ≡ q) = sym e ∙ f in cc

boot_same : (a b : BootHeader) → OfBoot a ≡ OfBoot b → a ≡ b
boot_same a b e = cc

vendor_same : (a b : Vendor) → OfVendor a ≡ OfVendor b → a ≡ b
vendor_same a b e = cc

apart : (a : BootHeader) (b : Vendor) → OfBoot a ≡ OfVendor b → ⊥
apart a b e = search (rules, e)

-- ---- boot images

module _ (x : List ℕ) (h : BootHeader) (has : HasImage x (OfBoot h)) where
  -- of what it was packed
  from_boot : BootHolds → StartsAsBoot x → PacksBoot x (boot_fields_of h) (boot_parts_of x h)
  unfolding boot_image_with
  from_boot holds b =
      let s = b.fields in
      let parts = b.parts in
      let rest = drop (length (boot_canon s parts)) x in
      let held : HoldsBoot x s parts = subst (λ (y : List ℕ). HoldsBoot y s parts)
      (sym (continues x (boot_canon s parts) b.front)) (holds s parts rest b.input) in
      let same : h ≡ boot_header_of s parts = boot_same h (boot_header_of s parts)
      (ok_same (OfBoot h) (OfBoot (boot_header_of s parts)) (image_header_at x) has.header held.has.header) in
      let there : boot_parts_of x h ≡ parts = ap (λ (g : BootHeader). parts_of x (places_of (OfBoot g))) same
      ∙ held.each in
      let made = boot_again s parts b.input in
      let t = boot_fields_of (boot_header_of s parts) in
      let packs : PacksBoot x t parts = record {
        taken = made.taken;
        again = subst (λ (g : BootHeader). StartsWith x (boot_image g parts)) (sym made.same) b.front;
      } in
      subst (λ (g : BootHeader). PacksBoot x (boot_fields_of g) (boot_parts_of x h)) (sym same)
      (subst (λ (l : List (List ℕ)). PacksBoot x t l) (sym there) packs)

  no_vendor : VendorHolds → StartsAsVendor x → ⊥
  no_vendor holds b =
      let rest = drop (length (vendor_canon b.fields b.parts)) x in
      let held : HoldsVendor x b.fields b.parts = subst (λ (y : List ℕ). HoldsVendor y b.fields b.parts)
      (sym (continues x (vendor_canon b.fields b.parts) b.front)) (holds b.fields b.parts rest b.input) in
      apart h (vendor_header_of b.fields b.parts) (ok_same (OfBoot h) (OfVendor (vendor_header_of b.fields b.parts))
      (image_header_at x) has.header held.has.header)

  pub boot_packs : BootHolds → VendorHolds → StartsAsPacked x → PacksBoot x (boot_fields_of h) (boot_parts_of x h)
  boot_packs boot vendor (inl b) = from_boot boot b
  boot_packs boot vendor (inr b) = absurd (no_vendor vendor b)

-- ---- the parts of a vendor boot image

-- the fragment at a place below the end
pick : (l : List FragmentSpec) (k : ℕ) → k < length l → (a : FragmentSpec) × (a ≡ slice_index_or l k a)
    × (take (suc k) l ≡ take k l ++ (a ∷ []))
pick [] k h = absurd (let q : k < 0 = h in omega arith)
pick (a ∷ l) zero h = (a, refl, refl)
pick (a ∷ l) (suc k) h = let r = pick l k (omega (arith, h)) in (r.0, r.1, ap (λ (m : List FragmentSpec). a ∷ m) r.2)

one_more_part : (l : List (List ℕ)) (k : ℕ) → k < length l → take (suc k) l ≡ take k l ++ (slice_index_or l k [] ∷ [])
one_more_part [] k h = absurd (let q : k < 0 = h in omega arith)
one_more_part (a ∷ l) zero h = refl
one_more_part (a ∷ l) (suc k) h = ap (λ (m : List (List ℕ)). a ∷ m) (one_more_part l k (omega (arith, h)))

module _ (x : List ℕ) (h : Header) (fs : List FragmentSpec) (rs : List (List ℕ)) (each : length fs ≡ length rs)
    (held : (i : ℕ) → i < length rs → HoldsFragment x h fs rs i) where
  specs_are : (k : ℕ) → k ≤ length fs → specs_of x h k ≡ take k fs
  specs_are zero l = refl
  specs_are (suc k) l =
      let some : k < length fs = omega (arith, l) in
      let f = pick fs k some in
      let e = (held k (omega (arith, some, each))).entry f.0 f.1 in
      ap (λ (l : List FragmentSpec). l ++ (spec_of (entry_of x h k) ∷ [])) (specs_are k (omega (arith, l)))
      ∙ ap (λ (g : FragmentSpec). take k fs ++ (g ∷ [])) (ap spec_of e) ∙ sym f.2

  ramdisks_are : (k : ℕ) → k ≤ length rs → ramdisks_of x h k ≡ take k rs
  ramdisks_are zero l = refl
  ramdisks_are (suc k) l =
      let some : k < length rs = omega (arith, l) in
      let e = (held k some).bytes in
      ap (λ (l : List (List ℕ)). l ++ (fragment_of x h k ∷ [])) (ramdisks_are k (omega (arith, l)))
      ∙ ap (λ (g : List ℕ). take k rs ++ (g ∷ [])) e ∙ sym (one_more_part rs k some)

  fragments_are : vendor_parts (specs_of x h (length fs)) (ramdisks_of x h (length fs)) ≡ vendor_parts fs rs
  fragments_are =
      let a = specs_are (length fs) (omega arith) ∙ take_all (length fs) fs (omega arith) in
      let b = ap (ramdisks_of x h) each ∙ ramdisks_are (length rs) (omega arith)
      ∙ take_all (length rs) rs (omega arith) in
      ap (λ (l : List FragmentSpec). vendor_parts l (ramdisks_of x h (length fs))) a ∙ ap (vendor_parts fs) b

-- parts of version 3
three_parts : (fs : List FragmentSpec) (rs : List (List ℕ)) (d b : List ℕ) → length fs ≡ 0 → length rs ≡ 1 → length b
    ≡ 0 → vendor_parts [] (concat rs ∷ []) d [] ≡ vendor_parts fs rs d b
three_parts [] (r ∷ []) d [] f g k = ap (λ (l : List ℕ). vendor_parts [] (l ∷ []) d []) (append-nil r)
three_parts (a ∷ fs) rs d b f g k = absurd (let q : suc (length fs) ≡ 0 = f in omega arith)
three_parts [] [] d b f g k = absurd (let q : 0 ≡ 1 = g in omega arith)
three_parts [] (r ∷ r' ∷ rs) d b f g k = absurd (let q : suc (suc (length rs)) ≡ 1 = g in omega arith)
three_parts [] (r ∷ []) d (c ∷ b) f g k = absurd (let q : suc (length b) ≡ 0 = k in omega arith)

-- what stands in section i, of the sections that are there
part_is : (x : List ℕ) (v : Vendor) (l : List (List ℕ)) (i : ℕ) → parts_of x (places_of (OfVendor v)) ≡ l
    → vendor_part x v i ≡ slice_index_or l i []
part_is x v l i e = ap (λ (m : List (List ℕ)). slice_index_or m i []) e

parts_3 : (x : List ℕ) (s : VendorFields) (p : VendorParts) → s.version ≡ 3 → IsVendorInput s p → HoldsVendor x s p
    → vendor_parts_of x (vendor_header_of s p) ≡ p
parts_3 x s p e input held =
    let v = vendor_header_of s p in
    let none : v.tail ≡ None = rw e refl in
    let sections : parts_of x (places_of (OfVendor v)) ≡ concat p.ramdisks ∷ p.dtb ∷ [] = held.each ∙ (rw e refl) in
    let n = input.three e in
    ap (vendor_parts_with x v) none
    ∙ ap (λ (r : List ℕ). vendor_parts [] (r ∷ []) (vendor_part x v 1) []) (part_is x v _ 0 sections)
    ∙ ap (λ (d : List ℕ). vendor_parts [] (concat p.ramdisks ∷ []) d []) (part_is x v _ 1 sections)
    ∙ three_parts p.fragments p.ramdisks p.dtb p.bootconfig n.0 n.1 n.2

parts_4 : (x : List ℕ) (s : VendorFields) (p : VendorParts) → s.version ≡ 4 → IsVendorInput s p → HoldsVendor x s p
    → ((i : ℕ) → i < length p.ramdisks → HoldsFragment x (OfVendor (vendor_header_of s p)) p.fragments p.ramdisks i)
    → vendor_parts_of x (vendor_header_of s p) ≡ p
parts_4 x s p e input held fragments =
    let v = vendor_header_of s p in
    let sizes = vendor_sizes_for (length (concat p.ramdisks)) (length p.dtb) (length p.fragments)
    (length p.bootconfig) in
    let some : v.tail ≡ Some (tail_for sizes (length p.fragments)) = rw e refl in
    let table = table_for p.fragments (map length p.ramdisks) 0 in
    let sections : parts_of x (places_of (OfVendor v)) ≡ concat p.ramdisks ∷ p.dtb ∷ table ∷ p.bootconfig ∷ [] =
    held.each ∙ (rw e refl) in
    ap (vendor_parts_with x v) some
    ∙ ap (λ (f : List ℕ → List ℕ → VendorParts). f (vendor_part x v 1) (vendor_part x v 3))
    (fragments_are x (OfVendor v) p.fragments p.ramdisks (input.four e) fragments)
    ∙ ap (λ (d : List ℕ). vendor_parts p.fragments p.ramdisks d (vendor_part x v 3)) (part_is x v _ 1 sections)
    ∙ ap (λ (b : List ℕ). vendor_parts p.fragments p.ramdisks p.dtb b) (part_is x v _ 3 sections)

-- ---- vendor boot images

-- the same header and sections make the same image
again_front : (x : List ℕ) (s : VendorFields) (p : VendorParts) (t : VendorFields)
    → MakesVendor t p s.version (vendor_header_of s p) → StartsWith x (vendor_canon s p)
    → StartsWith x (vendor_canon t p)
unfolding vendor_canon
again_front x s p t made front =
    let header : vendor_image (vendor_header_of s p) (vendor_sections_for s.version p)
    ≡ vendor_image (vendor_header_of t p) (vendor_sections_for s.version p) = ap
    (λ (w : Vendor). vendor_image w (vendor_sections_for s.version p)) (sym made.same) in
    let sections : vendor_image (vendor_header_of t p) (vendor_sections_for s.version p)
    ≡ vendor_image (vendor_header_of t p) (vendor_sections_for t.version p) = ap
    (λ (n : ℕ). vendor_image (vendor_header_of t p) (vendor_sections_for n p)) (sym made.version) in
    subst (λ (y : List ℕ). StartsWith x y) (header ∙ sections) front

module _ (x : List ℕ) (v : Vendor) (has : HasImage x (OfVendor v)) where
  from_vendor : VendorHolds → FragmentsHold → StartsAsVendor x
      → PacksVendor x (vendor_fields_of v) (vendor_parts_of x v)
  from_vendor holds fragments b =
      let s = b.fields in
      let p = b.parts in
      let rest = drop (length (vendor_canon s p)) x in
      let whole : x ≡ vendor_canon s p ++ rest = continues x (vendor_canon s p) b.front in
      let held : HoldsVendor x s p = subst (λ (y : List ℕ). HoldsVendor y s p) (sym whole) (holds s p rest b.input) in
      let same : v ≡ vendor_header_of s p = vendor_same v (vendor_header_of s p)
      (ok_same (OfVendor v) (OfVendor (vendor_header_of s p)) (image_header_at x) has.header held.has.header) in
      let there : vendor_parts_of x (vendor_header_of s p) ≡ p = elim (three_or_four s p b.input) [
        | inl e ↦ parts_3 x s p e b.input held
        | inr e ↦ parts_4 x s p e b.input held (λ i l. subst (λ (y : List ℕ). HoldsFragment y
            (OfVendor (vendor_header_of s p)) p.fragments p.ramdisks i) (sym whole) (fragments s p rest i b.input e l))
      ] in
      let made = vendor_again s p b.input in
      let t = vendor_fields_of (vendor_header_of s p) in
      let packs : PacksVendor x t p = record { taken = made.taken; again = again_front x s p t made b.front } in
      subst (λ (w : Vendor). PacksVendor x (vendor_fields_of w) (vendor_parts_of x w)) (sym same)
      (subst (λ (q : VendorParts). PacksVendor x t q) (sym there) packs)

  no_boot : BootHolds → StartsAsBoot x → ⊥
  no_boot holds b =
      let rest = drop (length (boot_canon b.fields b.parts)) x in
      let held : HoldsBoot x b.fields b.parts = subst (λ (y : List ℕ). HoldsBoot y b.fields b.parts)
      (sym (continues x (boot_canon b.fields b.parts) b.front)) (holds b.fields b.parts rest b.input) in
      apart (boot_header_of b.fields b.parts) v (ok_same (OfBoot (boot_header_of b.fields b.parts)) (OfVendor v)
      (image_header_at x) held.has.header has.header)

  pub vendor_packs : BootHolds → VendorHolds → FragmentsHold → StartsAsPacked x
      → PacksVendor x (vendor_fields_of v) (vendor_parts_of x v)
  vendor_packs boot vendor fragments (inl b) = absurd (no_boot boot b)
  vendor_packs boot vendor fragments (inr b) = from_vendor vendor fragments b

pub packs_again : BootHolds → VendorHolds → FragmentsHold → (x : List ℕ) (h : Header) → HasImage x h
    → StartsAsPacked x → PacksFromParts x h
packs_again boot vendor fragments x (OfBoot h) has p = boot_packs x h has boot vendor p
packs_again boot vendor fragments x (OfVendor v) has p = vendor_packs x v has boot vendor fragments p
