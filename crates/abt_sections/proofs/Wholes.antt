-- An image whose sections are there, by its parts and by what reading finds.
use Rattle.std.proofs.Common.{◌≡◌, ℕ, suc, ◌+◌, ◌-◌, ◌*◌, ◌≤◌, ◌<◌, Bool, false, cond, inl, inr, List, [], ◌∷◌, ◌++◌}
use Rattle.std.proofs.Common.{length, drop, refl, sym, ap, ◌∙◌, arith, length-take, length-drop, take-append-drop}
use Rattle.std.proofs.Common.{nat_lt, Option, Some, None, Result, Ok}
use Rattle.std.specs.Prelude.{◌↔◌}
use Rattle.std.proofs.lemmas.Bool.{and_left, and_right, le-ltb, cases_lt}
use Rattle.abt_headers.specs.declared.fault.HeaderFault.{HeaderFault}
use Rattle.abt_headers.specs.declared.sections.Section.{Section}
use Rattle.abt_headers.specs.declared.sections.SectionPlace.{SectionPlace}
use Rattle.abt_headers.specs.declared.vendor.VendorFront.{VendorFront}
use Rattle.abt_headers.specs.Page.{pages}
use Rattle.abt_headers.specs.Places.{places_from}
use Rattle.abt_headers.specs.Vendor.{Tail}
use Rattle.abt_headers.proofs.Fields.{IsBytes}
use Rattle.abt_sections.specs.declared.fault.SectionFault.TheVariants as faults
use Rattle.abt_sections.specs.Header.{Header, OfBoot, OfVendor, image_header_at, places_of, sections_of, page_of}
use Rattle.abt_sections.specs.Header.{size_of, entry_of, IsWithin, EachWithin}
use Rattle.abt_sections.specs.Layout.{PartsPlaced, part_of, parts_of}
use Rattle.abt_sections.specs.Check.{sizes_before, FragmentsFill, EndToEnd, IsCanonical}
use Rattle.abt_sections.specs.Open.{beyond, ends_beyond, HasImage, IsWholeImage}
use Rattle.abt_sections.proofs.Decoding.{decoded, header_again}
use Rattle.abt_sections.proofs.Digests.{there_length}
use Rattle.abt_sections.proofs.FragmentLists.{before_sum}
use Rattle.abt_sections.proofs.Tables.{none_at, ends_there}

abbrev ok_of : Header → Result Header HeaderFault
ok_of h = Ok h

pub ok_same : (g h : Header) → ok_of g ≡ ok_of h → g ≡ h
ok_same g h e = cc

-- what is found at the beginning of an image that the packer wrote
pub record IsPacked (x : List ℕ) (h : Header) : Type 0 where
  pub header : image_header_at x ≡ Ok h
  pub there : beyond (places_of h) (length x) ≡ None
  pub canonical : IsCanonical x h

-- ---- parts that are whole are there, and back

not_beyond : (x : List ℕ) (p : SectionPlace) → length (part_of x p) ≡ p.size → ends_beyond p (length x) ≡ false
not_beyond x p e = elim (cases_lt 0 p.size) [
  | inl some ↦ and_right (nat_lt 0 p.size) (nat_lt (length x) (p.at + p.size))
      (le-ltb (length x) (p.at + p.size) (omega (arith, some, e, length-take p.size (drop p.at x), length-drop p.at x)))
  | inr none ↦ and_left (nat_lt 0 p.size) (nat_lt (length x) (p.at + p.size)) (le-ltb 0 p.size none)
]

pub placed_there : (x : List ℕ) (ps : List SectionPlace) (parts : List (List ℕ)) → PartsPlaced x ps parts
    → beyond ps (length x) ≡ None
unfolding beyond
placed_there x [] [] h = refl
placed_there x [] (q ∷ qs) h = absurd h
placed_there x (p ∷ ps) [] h = absurd h
placed_there x (p ∷ ps) (q ∷ qs) h =
    ap (λ (b : Bool). cond b (Some p.kind) (beyond ps (length x))) (not_beyond x p (ap length h.1 ∙ h.0))
    ∙ placed_there x ps qs h.2

there_placed : (p k : ℕ) (ss : List (Section × ℕ)) (x : List ℕ) → beyond (places_from p k ss) (length x) ≡ None
    → PartsPlaced x (places_from p k ss) (parts_of x (places_from p k ss))
there_placed p k [] x there = tt
there_placed p k (s ∷ ss) x there =
    let place : SectionPlace = record { kind = s.0; at = p * k; size = s.1 } in
    let n = none_at place (places_from p (k + pages s.1 p) ss) (length x) there in
    (there_length x (p * k) s.1 (ends_there place (length x) n.0), refl, there_placed p (k + pages s.1 p) ss x n.1)

-- ---- fragments that lie end to end lie within

module _ (x : List ℕ) (f : VendorFront) (t : Tail) (e : EndToEnd x (OfVendor (record { front = f; tail = Some t })))
  where
    fragment_within : (i : ℕ) → i < t.entry_num
        → IsWithin (OfVendor (record { front = f; tail = Some t }))
        (entry_of x (OfVendor (record { front = f; tail = Some t })) i)
    fragment_within i lt =
        let h : Header = OfVendor (record { front = f; tail = Some t }) in
        let placed = e.placed i lt in
        let left = t.entry_num - suc i in
        let all : suc i + left ≡ t.entry_num = omega arith in
        let sum = before_sum x h (suc i) left in
        let full = e.full in
        let last : sizes_before x h (suc i + left) ≡ f.vendor_ramdisk_size = ap (λ (n : ℕ). sizes_before x h n) all
        ∙ full in
        let least : sizes_before x h i + (entry_of x h i).ramdisk_size ≤ f.vendor_ramdisk_size =
        omega (arith, last, sum) in
        omega (arith, placed, least)

within_of : (x : List ℕ) (f : VendorFront) (o : Option Tail)
    → FragmentsFill x (OfVendor (record { front = f; tail = o }))
    → EachWithin x (OfVendor (record { front = f; tail = o }))
within_of x f None e i lt = absurd (omega (arith, lt))
within_of x f (Some t) e i lt = fragment_within x f t (e refl) i lt

pub within_from : (x : List ℕ) (h : Header) → FragmentsFill x h → EachWithin x h
within_from x (OfBoot h) e i lt = absurd (omega (arith, lt))
within_from x (OfVendor v) e i lt = within_of x v.front v.tail e i lt

-- ---- images by their parts

whole_from : (x : List ℕ) (h : Header) → IsBytes x → HasImage x h → IsWholeImage x h
whole_from x h k has =
    let d = decoded x h k has.header in
    record {
      parts = parts_of x (places_of h);
      image = record {
        fits = d.fits;
        begins = d.begins;
        placed = there_placed (page_of h)
            (pages (size_of h) (page_of h)) (sections_of h) x has.there;
      };
      within = has.within;
    }

whole_to : (x : List ℕ) (h : Header) → IsWholeImage x h → HasImage x h
whole_to x h w =
    let i = w.image in
    record {
      header = header_again x h (drop (size_of h) x) i.fits (sym (take-append-drop (size_of h) x)
          ∙ ap (λ (l : List ℕ). l ++ drop (size_of h) x) i.begins);
      there = placed_there x (places_of h) w.parts i.placed;
      within = w.within;
    }

pub whole_iff : (x : List ℕ) (h : Header) → IsBytes x → (HasImage x h ↔ IsWholeImage x h)
whole_iff x h k = (whole_from x h k, whole_to x h)
