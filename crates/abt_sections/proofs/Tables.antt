-- Sections that are there, and what is stored in them.
use Rattle.std.proofs.Common.{◌≡◌, ℕ, zero, suc, ◌+◌, ◌*◌, ◌≤◌, ◌<◌, Bool, true, false, cond, List, [], ◌∷◌, length}
use Rattle.std.proofs.Common.{get_or, refl, sym, ap, ◌∙◌, arith, Option, Some, None, nat_lt, ◌&&◌, ◌-◌, take, drop}
use Rattle.std.proofs.Common.{drop-drop}
use Rattle.std.proofs.lemmas.List.{take-take, drop-take}
use Rattle.std.proofs.lemmas.Bool.{ltb-false, lt-ltb}
use Rattle.abt_headers.specs.declared.sections.SectionPlace.{SectionPlace}
use Rattle.abt_headers.specs.declared.sections.Section.{Section}
use Rattle.abt_headers.specs.declared.sections.Section.TheVariants.{VendorRamdisk, Table}
use Rattle.abt_headers.specs.declared.vendor.VendorFront.{VendorFront}
use Rattle.abt_headers.specs.declared.entry.RamdiskEntry.{RamdiskEntry}
use Rattle.abt_headers.specs.Vendor.{Tail}
use Rattle.abt_sections.specs.Header.{Header, OfBoot, OfVendor, places_of, fragment_count, table_at, ramdisk_at}
use Rattle.abt_sections.specs.Header.{ramdisk_size, HasWholeTable, entry_of, fragment_of}
use Rattle.abt_sections.specs.Open.{beyond, ends_beyond}

here : (b : Bool) (s : Section) (o : Option Section) → cond b (Some s) o ≡ None → (b ≡ false) × (o ≡ None)
here true s o e = absurd cc
here false s o e = (refl, e)

pub none_at : (p : SectionPlace) (ps : List SectionPlace) (n : ℕ) → beyond (p ∷ ps) n ≡ None
    → (ends_beyond p n ≡ false) × (beyond ps n ≡ None)
unfolding beyond
none_at p ps n e = here (ends_beyond p n) p.kind (beyond ps n) e

pub ends_there : (p : SectionPlace) (n : ℕ) → ends_beyond p n ≡ false → 0 < p.size → p.at + p.size ≤ n
ends_there p n e some =
    let first = lt-ltb 0 p.size some in
    ltb-false n (p.at + p.size) (ap (λ (b : Bool). b && nat_lt n (p.at + p.size)) (sym first) ∙ e)

-- a section that isn't empty is there
pub place_there : (ps : List SectionPlace) (n i : ℕ) (p : SectionPlace) → beyond ps n ≡ None → i < length ps
    → p ≡ get_or ps i p → 0 < p.size → p.at + p.size ≤ n
place_there [] n i p e h is some = absurd (omega arith)
place_there (q ∷ ps) n zero p e h is some =
    let t : 0 < q.size = omega (arith, ap (λ (r : SectionPlace). r.size) is) in
    let k = ends_there q n (none_at q ps n e).0 t in
    omega (arith, k, ap (λ (r : SectionPlace). r.size) is, ap (λ (r : SectionPlace). r.at) is)
place_there (q ∷ ps) n (suc i) p e h is some = place_there ps n i p (none_at q ps n e).1 (omega arith) is some

whole_table : (f : VendorFront) (t : Tail) (n i : ℕ) → t.table_size ≡ 108 * t.entry_num
    → beyond (places_of (OfVendor (record { front = f; tail = Some t }))) n ≡ None → i < t.entry_num
    → table_at (OfVendor (record { front = f; tail = Some t })) + 108 * i + 108 ≤ n
whole_table f t n i whole e h =
    let h4 : Header = OfVendor (record { front = f; tail = Some t }) in
    let p : SectionPlace = record { kind = Table; at = table_at h4; size = t.table_size } in
    let k = place_there (places_of h4) n 2 p e (omega arith) refl (omega (arith, whole)) in
    omega (arith, k, whole)

vendor_entry : (f : VendorFront) (t : Option Tail) (n i : ℕ)
    → HasWholeTable (OfVendor (record { front = f; tail = t }))
    → beyond (places_of (OfVendor (record { front = f; tail = t }))) n ≡ None
    → i < fragment_count (OfVendor (record { front = f; tail = t }))
    → table_at (OfVendor (record { front = f; tail = t })) + 108 * i + 108 ≤ n
vendor_entry f None n i whole e lt = absurd (omega arith)
vendor_entry f (Some t) n i whole e lt = whole_table f t n i whole e lt

-- an entry of the table is there
pub entry_there : (h : Header) (n i : ℕ) → HasWholeTable h → beyond (places_of h) n ≡ None → i < fragment_count h
    → table_at h + 108 * i + 108 ≤ n
entry_there (OfBoot h) n i whole e lt = absurd (omega arith)
entry_there (OfVendor v) n i whole e lt = vendor_entry v.front v.tail n i whole e lt

vendor_ramdisk : (f : VendorFront) (t : Option Tail) (n : ℕ)
    → beyond (places_of (OfVendor (record { front = f; tail = t }))) n ≡ None → 0 < f.vendor_ramdisk_size
    → ramdisk_at (OfVendor (record { front = f; tail = t })) + f.vendor_ramdisk_size ≤ n
vendor_ramdisk f None n e some =
    let h : Header = OfVendor (record { front = f; tail = None }) in
    let p : SectionPlace = record { kind = VendorRamdisk; at = ramdisk_at h; size = f.vendor_ramdisk_size } in
    place_there (places_of h) n 0 p e (omega arith) refl some
vendor_ramdisk f (Some t) n e some =
    let h : Header = OfVendor (record { front = f; tail = Some t }) in
    let p : SectionPlace = record { kind = VendorRamdisk; at = ramdisk_at h; size = f.vendor_ramdisk_size } in
    place_there (places_of h) n 0 p e (omega arith) refl some

-- the vendor ramdisk is there
pub ramdisk_there : (h : Header) (n : ℕ) → beyond (places_of h) n ≡ None → 0 < ramdisk_size h
    → ramdisk_at h + ramdisk_size h ≤ n
ramdisk_there (OfBoot h) n e some = absurd (omega arith)
ramdisk_there (OfVendor v) n e some = vendor_ramdisk v.front v.tail n e some

-- a part of a part
pub part_within : (x : List ℕ) (at r o n : ℕ) → o + n ≤ r
    → take n (drop (at + o) x) ≡ take n (drop o (take r (drop at x)))
part_within x at r o n h =
    let e : r ≡ o + (r - o) = omega arith in
    let k : n ≤ r - o = omega arith in
    sym (ap (λ (m : ℕ). take n (drop o (take m (drop at x)))) e ∙ ap (take n) (drop-take o (r - o) (drop at x))
    ∙ take-take n (r - o) (drop o (drop at x)) k ∙ ap (take n) (drop-drop o at x))

-- the fragment that an entry says
pub fragment_is : (x x' : List ℕ) (h : Header) (i at : ℕ) (e : RamdiskEntry) → x' ≡ x
    → at ≡ ramdisk_at h + e.ramdisk_offset → e ≡ entry_of x h i → take e.ramdisk_size (drop at x') ≡ fragment_of x h i
fragment_is x x' h i at e same place is =
    ap (λ (l : List ℕ). take e.ramdisk_size (drop at l)) same
    ∙ ap (λ (k : ℕ). take e.ramdisk_size (drop k x)) place
    ∙ ap (λ (q : RamdiskEntry). take q.ramdisk_size (drop (ramdisk_at h + q.ramdisk_offset) x)) is
