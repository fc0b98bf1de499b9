-- What is read of an image beside it.
use Rattle.std.proofs.Common.{◌≡◌, ◌<◌, ◌≤◌, ◌+◌, ℕ, zero, suc, Bool, true, false, cond, List, [], ◌∷◌, ◌++◌}
use Rattle.std.proofs.Common.{Option, Some}
use Rattle.std.proofs.Common.{None, length, take, find, refl, sym, ap, ◌∙◌, subst, arith}
use Rattle.std.proofs.Common.{ltb-false, lt-ltb}
use Rattle.std.proofs.Common.{get_or, map, sum_by}
use Rattle.std.proofs.lemmas.List.{map-append, take_more}
use Rattle.std.proofs.lemmas.List.Sums.{sum_by-append}
use Rattle.std.specs.Prelude.{unwrap_or, if◌then◌else◌, nat_lt, ◌&&◌}
use Rattle.std.proofs.lemmas.Bool.{false≢true}
use Rattle.std.proofs.lemmas.Option.{none-some}
use Rattle.std.proofs.lemmas.List.Elements.{All-nil, All-push}
use Rattle.abt_headers.specs.declared.boot.BootHeader.TheVariants.{V0, V1, V2, V3, V4}
use Rattle.abt_headers.specs.declared.entry.RamdiskEntry.{RamdiskEntry}
use Rattle.abt_headers.specs.declared.sections.SectionPlace.{SectionPlace}
use Rattle.abt_headers.specs.declared.sections.Section.{Section}
use Rattle.abt_headers.specs.declared.sections.Section.TheVariants.{VendorRamdisk}
use Rattle.abt_headers.specs.declared.vendor.VendorFront.{VendorFront}
use Rattle.abt_headers.specs.Vendor.{Tail}
use Rattle.abt_sections.specs.Header.{Header, OfBoot, OfVendor, EachWithin, entry_of, fragment_count, places_of}
use Rattle.abt_sections.specs.Header.{ramdisk_at}
use Rattle.abt_sections.specs.Header.{ramdisk_size}
use Rattle.abt_sections.specs.Open.{beyond, ends_beyond}
use Rattle.cmd_common_findings.specs.Places.{first_place_of, stands_at}
use Rattle.cmd_pack_inputs.specs.Own.{AllEndBehind, EndsBehind, entries_to}

-- ---- its position

found_is : (b : Bool) (q place : SectionPlace) (r : Option SectionPlace) (P : SectionPlace → Type 0)
    → cond b (Some q) r ≡ Some place → P q
    → (r ≡ Some place → P place) → P place
found_is true q place r P e here behind = subst P (ap (λ o. unwrap_or o q) e) here
found_is false q place r P e here behind = behind e

not_beyond : (b : Bool) (s : Section) (r : Option Section) → (if b then Some s else r) ≡ None
    → (b ≡ false) × (r ≡ None)
not_beyond true s r e = absurd (none-some s (sym e))
not_beyond false s r e = (refl, e)

both_false : (a b : Bool) → a && b ≡ false → a ≡ true → b ≡ false
both_false true b e t = e
both_false false b e t = absurd (false≢true t)

ends_within : (n : ℕ) (q : SectionPlace) → ends_beyond q n ≡ false → 0 < q.size → q.at + q.size ≤ n
ends_within n q inside some =
    ltb-false n (q.at + q.size)
    (both_false (nat_lt 0 q.size) (nat_lt n (q.at + q.size)) inside (lt-ltb 0 q.size some))

-- a section that is found ends within the bytes, of which every section is there
pub lies : (p : SectionPlace → Bool) (ps : List SectionPlace) (n : ℕ) (place : SectionPlace) → find p ps ≡ Some place
    → beyond ps n ≡ None
    → 0 < place.size → place.at + place.size ≤ n
unfolding beyond
lies p [] n place e there = absurd (none-some place e)
lies p (q ∷ ps) n place e there =
    let inside = not_beyond (ends_beyond q n) q.kind (beyond ps n) there in
    found_is (p q) q place (find p ps) (λ r. 0 < r.size → r.at + r.size ≤ n) e (ends_within n q inside.0)
    (λ f. lies p ps n place f inside.1)

-- ---- after the image

-- ---- the vendor ramdisk

vendor_place : (f : VendorFront) (tail : Option Tail) (place : SectionPlace)
    → Some place ≡ first_place_of (OfVendor (record { front = f; tail = tail })) VendorRamdisk
    → (place.at ≡ ramdisk_at (OfVendor (record { front = f; tail = tail })))
    × (place.size ≡ ramdisk_size (OfVendor (record { front = f; tail = tail })))
vendor_place f None place e = (ap (λ o. (unwrap_or o place).at) e, ap (λ o. (unwrap_or o place).size) e)
vendor_place f (Some t) place e = (ap (λ o. (unwrap_or o place).at) e, ap (λ o. (unwrap_or o place).size) e)

pub ramdisk_place : (h : Header) (place : SectionPlace) → Some place ≡ first_place_of h VendorRamdisk
    → (place.at ≡ ramdisk_at h) × (place.size ≡ ramdisk_size h)
ramdisk_place (OfBoot (V0 f)) place e = absurd (none-some place (sym e))
ramdisk_place (OfBoot (V1 f d)) place e = absurd (none-some place (sym e))
ramdisk_place (OfBoot (V2 f d t)) place e = absurd (none-some place (sym e))
ramdisk_place (OfBoot (V3 f)) place e = absurd (none-some place (sym e))
ramdisk_place (OfBoot (V4 f signature)) place e = absurd (none-some place (sym e))
ramdisk_place (OfVendor v) place e = vendor_place v.front v.tail place e

-- each fragment ends within the bytes
pub all_end : (x : List ℕ) (h : Header) (front m n : ℕ) → EachWithin x h → front ≡ ramdisk_at h
    → (0 < ramdisk_size h → front + ramdisk_size h ≤ m) → n ≤ fragment_count h
    → AllEndBehind front m (entries_to x h n)
all_end x h front m zero within at whole few = All-nil (EndsBehind front m)
all_end x h front m (suc n) within at whole few = All-push (EndsBehind front m) (entries_to x h n) (entry_of x h n)
    (all_end x h front m n within at whole (omega (arith, few)))
    (λ some. let e = within n (omega (arith, few)) in
    let w = whole (omega (arith, e, some)) in
    omega (arith, e, w))

-- ---- the table

pub entries_next : (x : List ℕ) (h : Header) (n : ℕ) (es : List RamdiskEntry) (e : RamdiskEntry)
    → es ≡ entries_to x h n → e ≡ entry_of x h n → es ++ (e ∷ []) ≡ entries_to x h (n + 1)
entries_next x h n es e before next =
    let on : suc n ≡ n + 1 = omega arith in
    ap (λ ys. ys ++ (e ∷ [])) before ∙ ap (λ y. entries_to x h n ++ (y ∷ [])) next ∙ ap (entries_to x h) on

-- ---- fragments, one after another

module _ {P : Type 0} (content : P → List ℕ) (faults : P → ℕ) where
  pub push_bytes : (xs ys : List P) (p : P) (b : List ℕ) → ys ≡ xs ++ (p ∷ []) → content p ≡ b
      → map content ys ≡ map content xs ++ (b ∷ [])
  push_bytes xs ys p b more is = ap (map content) more ∙ map-append content xs (p ∷ [])
      ∙ ap (λ c. map content xs ++ (c ∷ [])) is

  last_unread : (xs : List P) (p : P) → faults p ≡ 0 → sum_by faults xs + sum_by faults (p ∷ []) ≡ sum_by faults xs
  last_unread xs p none = let e : sum_by faults xs + (0 + faults p) ≡ sum_by faults xs = omega (arith, none) in e

  pub push_unread : (xs ys : List P) (p : P) → ys ≡ xs ++ (p ∷ []) → faults p ≡ 0
      → sum_by faults ys ≡ sum_by faults xs
  push_unread xs ys p more none = ap (sum_by faults) more ∙ sum_by-append faults xs (p ∷ [])
      ∙ last_unread xs p none

-- one entry more
pub map_more : {X : Type 0} (f : RamdiskEntry → X) (ys ys' : List X) (es : List RamdiskEntry) (i : ℕ) (d : RamdiskEntry)
    → i < length es → ys ≡ map f (take i es) → ys' ≡ ys ++ (f (get_or es i d) ∷ []) → ys' ≡ map f (take (i + 1) es)
map_more f ys ys' es i d there so_far more = more ∙ ap (λ l. l ++ (f (get_or es i d) ∷ [])) so_far
    ∙ sym (map-append f (take i es) (get_or es i d ∷ [])) ∙ sym (ap (map f) (take_more es i d there))

pub lies_there : (x : List ℕ) (h : Header) (place : SectionPlace) → beyond (places_of h) (length x) ≡ None
    → Some place ≡ first_place_of h VendorRamdisk → place.size ≡ ramdisk_size h
    → 0 < ramdisk_size h → place.at + ramdisk_size h ≤ length x
lies_there x h place there found size some =
    let within = lies (stands_at VendorRamdisk) (places_of h) (length x) place (sym found) there
    (omega (arith, size, some)) in
    omega (arith, size, within)
