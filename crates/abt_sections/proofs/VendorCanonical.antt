-- A vendor boot image is canonical exactly where it is packed of some fields, fragments and parts.
use Rattle.std.proofs.Common.{◌≡◌, ℕ, ◌+◌, ◌*◌, ◌≤◌, ◌<◌, ◌^◌, inl, inr, true, ◌&&◌, List, [], ◌∷◌, ◌++◌, length, take}
use Rattle.std.proofs.Common.{drop, map, get_or, refl, sym, ap, subst, ◌∙◌, arith, lit<, lit≤, append_assoc, append-nil}
use Rattle.std.proofs.Common.{take-append-drop, Option, Some, None, Ok}
use Rattle.std.specs.Prelude.{slice_index}
use Rattle.std.specs.List.{All, concat}
use Rattle.std.proofs.lemmas.Bool.{and_parts, and_from, eqb-true, cases_lt, false≢true}
use Rattle.std.proofs.lemmas.List.Elements.{All-nil}
use Rattle.abt_headers.specs.declared.page.PageSize.{PageSize}
use Rattle.abt_headers.specs.declared.vendor.VendorFront.{VendorFront}
use Rattle.abt_headers.specs.Page.{page_bytes, page_from, pages}
use Rattle.abt_headers.specs.Vendor.{Tail, Vendor, vendor_page, vendor_record, vendor_size, vendor_sections}
use Rattle.abt_headers.specs.VendorFits.{VendorFrontFits, VendorFits}
use Rattle.abt_headers.proofs.Fields.{IsBytes}
use Rattle.abt_sections.specs.declared.spec.FragmentSpec.{FragmentSpec}
use Rattle.abt_sections.specs.Fields.{VendorFields, is_text, filled}
use Rattle.abt_sections.specs.Layout.{PartsPlaced, Sized, zeros_behind, padded, laid, parts_of}
use Rattle.abt_sections.specs.Refusal.{vendor_names, vendor_refusal, size_refusal}
use Rattle.abt_sections.specs.BootCanon.{page_or}
use Rattle.abt_sections.specs.VendorCanon.{VendorParts, vendor_parts, table_for, vendor_front_for, tail_for}
use Rattle.abt_sections.specs.VendorCanon.{vendor_page_for, vendor_sizes_for, vendor_header_of, vendor_sections_for}
use Rattle.abt_sections.specs.VendorCanon.{vendor_image, vendor_canon}
use Rattle.abt_sections.specs.Header.{Header, OfVendor, image_header_at, places_of, ramdisk_at, ramdisk_size, table_at}
use Rattle.abt_sections.specs.Header.{entry_of}
use Rattle.abt_sections.specs.Open.{HasImage}
use Rattle.abt_sections.specs.Check.{text_field, texts_hold, offset_holds, sizes_before, EndToEnd, FragmentsFill}
use Rattle.abt_sections.specs.Check.{IsCanonical}
use Rattle.abt_sections.specs.Canonical.{VendorNumbers, IsVendorInput, FragmentFits, StartsAsVendor}
use Rattle.abt_sections.specs.Unpacked.{HoldsVendor, HoldsFragment}
use Rattle.abt_sections.proofs.Accepting.{VendorAccepted, vendor_accepted, vendor_passes, text_parts, page_again}
use Rattle.abt_sections.proofs.Accepting.{page_is_some, AllSmall, none_large, all_small, neither, none_of}
use Rattle.abt_sections.proofs.Decoding.{decoded, header_again}
use Rattle.abt_sections.proofs.Digests.{there_length}
use Rattle.abt_sections.proofs.FieldTexts.{length_filled, text_filled, text_of, text_no_zero, text_is, is_short}
use Rattle.abt_sections.proofs.FragmentLists.{Lies, specs_from, rams_from, specs_long, rams_long, concat_all, specs_fit}
use Rattle.abt_sections.proofs.FragmentLists.{table_all, table_long, end_to_end, all_full, entry_held, fragment_is}
use Rattle.abt_sections.proofs.Laying.{is_image}
use Rattle.abt_sections.proofs.Padding.{laid_out_back, laid_out_padded, placed_parts}
use Rattle.abt_sections.proofs.Wholes.{IsPacked, placed_there, within_from}
use Rattle.abt_sections.proofs.Starting.{starts, continues, sized_there}
use Rattle.abt_sections.proofs.Tables.{entry_there, ramdisk_there}

abbrev of_3 : VendorFront → Vendor
of_3 f = record { front = f; tail = None }

abbrev of_4 : VendorFront → Tail → Vendor
of_4 f t = record { front = f; tail = Some t }

-- ---- from a canonical image to what it is packed of

abbrev vendor_spec : ℕ → VendorFront → VendorFields
vendor_spec version f = record {
  version = version;
  page = page_bytes f.page_size;
  kernel_addr = f.kernel_addr;
  ramdisk_addr = f.ramdisk_addr;
  tags_addr = f.tags_addr;
  dtb_addr = f.dtb_addr;
  name = text_of f.name;
  cmdline = text_of f.cmdline;
}

record Texts (f : VendorFront) : Type 0 where
  name : filled 16 (text_of f.name) ≡ f.name
  cmdline : filled 2048 (text_of f.cmdline) ≡ f.cmdline
  name_text : is_text 15 (text_of f.name) ≡ true
  cmdline_text : is_text 2047 (text_of f.cmdline) ≡ true

texts_back : (f : VendorFront) → VendorFrontFits f → (text_field f.name && text_field f.cmdline) ≡ true → Texts f
texts_back f fits e =
    let p = and_parts (text_field f.name) (text_field f.cmdline) e in
    let n = text_is f.name p.0 in
    let c = text_is f.cmdline p.1 in
    let small : length (text_of f.name) ≤ 15 = omega (arith, n.0, fits.name) in
    let few : length (text_of f.cmdline) ≤ 2047 = omega (arith, c.0, fits.cmdline) in
    record {
      name = sym (n.1 ∙ ap (λ (k : ℕ). filled k (text_of f.name)) fits.name);
      cmdline = sym (c.1 ∙ ap (λ (k : ℕ). filled k (text_of f.cmdline)) fits.cmdline);
      name_text = is_short 15 (text_of f.name) small (text_no_zero f.name);
      cmdline_text = is_short 2047 (text_of f.cmdline) few (text_no_zero f.cmdline);
    }

front_same : (f : VendorFront) (page : PageSize) (r h d : ℕ) (cmdline name : List ℕ) → page ≡ f.page_size
    → r ≡ f.vendor_ramdisk_size → cmdline ≡ f.cmdline → name ≡ f.name → h ≡ f.header_size → d ≡ f.dtb_size
    → record {
      page_size = page;
      kernel_addr = f.kernel_addr;
      ramdisk_addr = f.ramdisk_addr;
      vendor_ramdisk_size = r;
      cmdline = cmdline;
      tags_addr = f.tags_addr;
      name = name;
      header_size = h;
      dtb_size = d;
      dtb_addr = f.dtb_addr;
    } ≡ f
front_same f page r h d cmdline name a b c e g i = rw (a, b, c, e, g, i) refl

tail_same : (t : Tail) (s n e b : ℕ) → s ≡ t.table_size → n ≡ t.entry_num → e ≡ t.entry_size → b ≡ t.bootconfig_size
    → record { table_size = s; entry_num = n; entry_size = e; bootconfig_size = b } ≡ t
tail_same t s n e b p q r u = rw (p, q, r, u) refl

few : (n m : ℕ) → n ≡ m → m < 2 ^ 32 → n ≤ 4294967295
few n m e h = omega (arith, e, h)

page_kept : (p : PageSize) → page_or (page_from (page_bytes p)) ≡ p
page_kept p = ap page_or (page_again p)

numbers_of : (version : ℕ) (f : VendorFront) → VendorFrontFits f → VendorNumbers (vendor_spec version f)
numbers_of version f fits =
    record {
      kernel_addr = fits.kernel_addr;
      ramdisk_addr = fits.ramdisk_addr;
      tags_addr = fits.tags_addr;
      dtb_addr = fits.dtb_addr;
    }

-- what a header and sections were made of
record Found (v : Vendor) (sections : List (List ℕ)) : Type 0 where
  fields : VendorFields
  parts : VendorParts
  input : IsVendorInput fields parts
  same : vendor_header_of fields parts ≡ v
  same_sections : vendor_sections_for fields.version parts ≡ sections

found_3 : (f : VendorFront) (r d : List ℕ) → VendorFrontFits f → Sized (vendor_sections (of_3 f)) (r ∷ d ∷ [])
    → texts_hold (OfVendor (of_3 f)) ≡ true → offset_holds (OfVendor (of_3 f)) ≡ true → Found (of_3 f) (r ∷ d ∷ [])
found_3 f r d fits s e o =
    let t = texts_back f fits e in
    let sp = vendor_spec 3 f in
    let whole : concat (r ∷ []) ≡ r = append-nil r in
    let long : length (concat (r ∷ [])) ≡ f.vendor_ramdisk_size = ap length whole ∙ s.0 in
    let none : 108 * 0 ≤ 4294967295 = lit≤ tt in
    let zero : 0 ≤ 4294967295 = lit≤ tt in
    let sizes = vendor_sizes_for (length (concat (r ∷ []))) (length d) 0 0 in
    let small : AllSmall sizes =
    (few _ _ long fits.vendor_ramdisk_size, (few _ _ s.1.0 fits.dtb_size, (none, (zero, tt)))) in
    record {
      fields = sp;
      parts = vendor_parts [] (r ∷ []) d [];
      input = record {
        numbers = numbers_of 3 f fits;
        fragments = All-nil FragmentFits;
        three = λ _. (refl, refl, refl);
        four = λ e. absurd (omega (arith, e));
        accepted = none_of (vendor_refusal sp) (size_refusal vendor_names sizes)
            (vendor_passes sp (lit≤ tt) (lit≤ tt) (page_is_some f.page_size) t.name_text t.cmdline_text)
            (none_large vendor_names sizes small);
      };
      same = ap of_3 (front_same f _ _ _ _ _ _ (page_kept f.page_size) long t.cmdline t.name
          (sym (eqb-true _ _ o)) s.1.0);
      same_sections = ap (λ (l : List ℕ). l ∷ d ∷ []) whole;
    }

-- a table and the fragments that it lists
record Listed (n : ℕ) (r table : List ℕ) : Type 0 where
  specs : List FragmentSpec
  rams : List (List ℕ)
  count : length specs ≡ n
  each : length specs ≡ length rams
  fit : All FragmentFits specs
  whole : concat rams ≡ r
  bytes : table_for specs (map (λ (l : List ℕ). length l) rams) 0 ≡ table

found_4 : (f : VendorFront) (t : Tail) (r d table b : List ℕ) → VendorFits (of_4 f t)
    → Sized (vendor_sections (of_4 f t)) (r ∷ d ∷ table ∷ b ∷ []) → texts_hold (OfVendor (of_4 f t)) ≡ true
    → offset_holds (OfVendor (of_4 f t)) ≡ true
    → Listed t.entry_num r table → Found (of_4 f t) (r ∷ d ∷ table ∷ b ∷ [])
found_4 f t r d table b fits s e o l =
    let u = texts_back f fits.0 e in
    let sp = vendor_spec 4 f in
    let p = vendor_parts l.specs l.rams d b in
    let long : length (concat l.rams) ≡ f.vendor_ramdisk_size = ap length l.whole ∙ s.0 in
    let sizes = vendor_sizes_for (length (concat l.rams)) (length d) (length l.specs) (length b) in
    let table_size : 108 * length l.specs ≡ t.table_size = ap (λ (n : ℕ). 108 * n) l.count ∙ sym fits.1.whole in
    let small : AllSmall sizes = (
      few _ _ long fits.0.vendor_ramdisk_size,
      (
        few _ _ s.1.0 fits.0.dtb_size,
        (few _ _ table_size fits.1.table_size, (few _ _ s.1.1.1.0 fits.1.bootconfig_size, tt)),
      ),
    ) in
    let front = front_same f _ _ _ _ _ _ (page_kept f.page_size) long u.cmdline u.name (sym (eqb-true _ _ o)) s.1.0 in
    let tail = tail_same t _ _ _ _ table_size l.count (sym fits.1.entries) s.1.1.1.0 in
    record {
      fields = sp;
      parts = p;
      input = record {
        numbers = numbers_of 4 f fits.0;
        fragments = l.fit;
        three = λ e. absurd (omega (arith, e));
        four = λ _. l.each;
        accepted = none_of (vendor_refusal sp) (size_refusal vendor_names sizes)
            (vendor_passes sp (lit≤ tt) (lit≤ tt) (page_is_some f.page_size) u.name_text u.cmdline_text)
            (none_large vendor_names sizes small);
      };
      same = ap (λ (g : VendorFront). of_4 g (tail_for sizes (length l.specs))) front
          ∙ ap (λ (w : Tail). of_4 f w) tail;
      same_sections = ap (λ (l : List ℕ). l ∷ d
          ∷ table_for (p.fragments) (map (λ (l : List ℕ). length l) p.ramdisks) 0 ∷ b ∷ []) l.whole
          ∙ ap (λ (l : List ℕ). r ∷ d ∷ l ∷ b ∷ []) l.bytes;
    }

-- each fragment of an image whose fragments lie end to end
lies : (x : List ℕ) (f : VendorFront) (t : Tail) → VendorFits (of_4 f t) → HasImage x (OfVendor (of_4 f t))
    → EndToEnd x (OfVendor (of_4 f t)) → (j : ℕ) → j < t.entry_num → Lies x (OfVendor (of_4 f t)) j
lies x f t fits has e j lt =
    let h : Header = OfVendor (of_4 f t) in
    let g = entry_of x h j in
    let within = has.within j lt in
    record {
      placed = e.placed j lt;
      long = there_length x (ramdisk_at h + g.ramdisk_offset) g.ramdisk_size
          (λ some. end x h g.ramdisk_offset g.ramdisk_size some within (ramdisk_there h (length x) has.there));
      there = entry_there h (length x) j fits.1.whole has.there lt;
    }
  where
    end : (x : List ℕ) (h : Header) (o n : ℕ) → 0 < n → o + n ≤ ramdisk_size h
        → (0 < ramdisk_size h → ramdisk_at h + ramdisk_size h ≤ length x) → ramdisk_at h + o + n ≤ length x
    end x h o n some within there = let k = there (omega arith) in omega arith

listed : (x : List ℕ) (f : VendorFront) (t : Tail) → IsBytes x → VendorFits (of_4 f t)
    → HasImage x (OfVendor (of_4 f t)) → EndToEnd x (OfVendor (of_4 f t))
    → Listed t.entry_num (take f.vendor_ramdisk_size (drop (ramdisk_at (OfVendor (of_4 f t))) x))
    (take t.table_size (drop (table_at (OfVendor (of_4 f t))) x))
listed x f t k fits has e =
    let h : Header = OfVendor (of_4 f t) in
    let c = t.entry_num in
    let l = lies x f t fits has e in
    let none : 0 + c ≤ c = omega arith in
    record {
      specs = specs_from x h 0 c;
      rams = rams_from x h 0 c;
      count = specs_long x h 0 c;
      each = specs_long x h 0 c ∙ sym (rams_long x h 0 c);
      fit = specs_fit x h c l k 0 c none;
      whole = concat_all x h c l ∙ ap (λ (n : ℕ). take n (drop (ramdisk_at h) x)) e.full;
      bytes = table_all x h c l k ∙ ap (λ (n : ℕ). take n (drop (table_at h) x)) (sym fits.1.whole);
    }

found : (x : List ℕ) (f : VendorFront) (o : Option Tail) → IsBytes x → VendorFits (record { front = f; tail = o })
    → HasImage x (OfVendor (record { front = f; tail = o }))
    → Sized (vendor_sections (record { front = f; tail = o }))
    (parts_of x (places_of (OfVendor (record { front = f; tail = o }))))
    → IsCanonical x (OfVendor (record { front = f; tail = o }))
    → Found (record { front = f; tail = o }) (parts_of x (places_of (OfVendor (record { front = f; tail = o }))))
found x f None k fits has s e = found_3 f _ _ fits.0 s e.texts e.offset
found x f (Some t) k fits has s e =
    found_4 f t _ _ _ _ fits s e.texts e.offset (listed x f t k fits has (e.fragments refl))

pub vendor_found : (x : List ℕ) (v : Vendor) → IsBytes x → HasImage x (OfVendor v) → IsCanonical x (OfVendor v)
    → StartsAsVendor x
unfolding vendor_canon
vendor_found x v k has e =
    let h : Header = OfVendor v in
    let d = decoded x h k has.header in
    let sections = parts_of x (places_of h) in
    let s = sized_there (vendor_page v) (pages (vendor_size v) (vendor_page v)) (vendor_sections v) x has.there in
    let f = found x v.front v.tail k d.fits has s e in
    let b = laid_out_back x h d.fits d.size d.begins has.there e.padding in
    record {
      fields = f.fields;
      parts = f.parts;
      input = f.input;
      front = starts x (vendor_canon f.fields f.parts) b.0 (b.1 ∙ ap (λ (w : Vendor). vendor_image w sections
          ++ b.0) (sym f.same) ∙ ap (λ (l : List (List ℕ)). vendor_image (vendor_header_of f.fields f.parts) l
          ++ b.0) (sym f.same_sections));
    }

-- ---- and back

-- what a header that was made of fields and parts has
record Made (v : Vendor) (sections : List (List ℕ)) : Type 0 where
  fits : VendorFits v
  sized : Sized (vendor_sections v) sections
  texts : texts_hold (OfVendor v) ≡ true
  offset : offset_holds (OfVendor v) ≡ true
  fragments : (x : List ℕ) → parts_of x (places_of (OfVendor v)) ≡ sections → FragmentsFill x (OfVendor v)

header_front : (x : List ℕ) (v : Vendor) (sections : List (List ℕ)) (rest : List ℕ) → VendorFits v
    → x ≡ vendor_image v sections ++ rest → image_header_at x ≡ Ok (OfVendor v)
header_front x v sections rest fits e =
    let p = vendor_page v in
    let r = vendor_record v in
    let tail = laid p sections ++ rest in
    let zeros = zeros_behind (length r) p in
    header_again x (OfVendor v) (zeros ++ tail) fits (e ∙ append_assoc (padded p r) (laid p sections) rest
    ∙ append_assoc r zeros tail)

made_canonical : (x : List ℕ) (v : Vendor) (sections : List (List ℕ)) (rest : List ℕ) → Made v sections
    → x ≡ vendor_image v sections ++ rest → IsPacked x (OfVendor v)
made_canonical x v sections rest m e =
    let h : Header = OfVendor v in
    let i = is_image h sections rest m.fits m.sized in
    let placed = subst (λ (y : List ℕ). PartsPlaced y (places_of h) sections) (sym e) i.placed in
    record {
      header = header_front x v sections rest m.fits e;
      there = placed_there x (places_of h) sections placed;
      canonical = record {
        padding = laid_out_padded x h sections rest m.fits m.sized e;
        id = tt;
        offset = m.offset;
        texts = m.texts;
        fragments = m.fragments x (placed_parts x (places_of h) sections placed);
      };
    }

front_made : (s : VendorFields) (page : PageSize) (sizes : List ℕ) (size : ℕ) → VendorNumbers s → VendorAccepted s
    → slice_index sizes 0 ≤ 4294967295 → slice_index sizes 1 ≤ 4294967295 → size < 2 ^ 32
    → VendorFrontFits (vendor_front_for s page sizes size)
    × ((text_field (filled 16 s.name) && text_field (filled 2048 s.cmdline)) ≡ true)
front_made s page sizes size n t a b h =
    let nt = text_parts 15 s.name t.name in
    let ct = text_parts 2047 s.cmdline t.cmdline in
    let n1 : length s.name ≤ 16 = omega (arith, nt.0) in
    let n2 : length s.name < 16 = omega (arith, nt.0) in
    let c1 : length s.cmdline ≤ 2048 = omega (arith, ct.0) in
    let c2 : length s.cmdline < 2048 = omega (arith, ct.0) in (
      record {
        kernel_addr = n.kernel_addr;
        ramdisk_addr = n.ramdisk_addr;
        vendor_ramdisk_size = omega (arith, a);
        cmdline = length_filled 2048 s.cmdline c1;
        tags_addr = n.tags_addr;
        name = length_filled 16 s.name n1;
        header_size = h;
        dtb_size = omega (arith, b);
        dtb_addr = n.dtb_addr;
      },
      and_from _ _ (text_filled 16 s.name nt.1 n2) (text_filled 2048 s.cmdline ct.1 c2),
    )

small_number : (n : ℕ) → n ≤ 4294967295 → n < 2 ^ 32
small_number n h = omega (arith, h)

few_entries : (n : ℕ) → 108 * n ≤ 4294967295 → n < 2 ^ 32
few_entries n h = omega (arith, h)

-- the third section of four
third : (a b c d e f g h : List ℕ) → a ∷ b ∷ c ∷ d ∷ [] ≡ e ∷ f ∷ g ∷ h ∷ [] → c ≡ g
third a b c d e f g h same = ap (λ (l : List (List ℕ)). get_or l 2 []) same

-- where the table is the canonical one, its fragments fill the vendor ramdisk
fills : (f : VendorFront) (t : Tail) (fs : List FragmentSpec) (rs : List (List ℕ)) (d b : List ℕ)
    → t.entry_num ≡ length fs → f.vendor_ramdisk_size ≡ length (concat rs) → length fs ≡ length rs
    → All FragmentFits fs → length (concat rs) ≤ 4294967295
    → (x : List ℕ) → parts_of x (places_of (OfVendor (of_4 f t))) ≡ concat rs ∷ d
    ∷ table_for fs (map (λ (l : List ℕ). length l) rs) 0 ∷ b ∷ [] → FragmentsFill x (OfVendor (of_4 f t))
fills f t fs rs d b count size each fit few x e has =
    let h : Header = OfVendor (of_4 f t) in
    let table = table_for fs (map (λ (l : List ℕ). length l) rs) 0 in
    let here : take t.table_size (drop (table_at h) x) ≡ table = third _ _ _ _ _ _ _ _ e in
    let rest = drop t.table_size (drop (table_at h) x) in
    let at : drop (table_at h) x ≡ table ++ rest = sym (take-append-drop t.table_size (drop (table_at h) x))
    ∙ ap (λ (l : List ℕ). l ++ rest) here in
    record {
      placed = λ i lt. end_to_end x h fs rs rest each fit few at i (omega (arith, lt, count));
      full = ap (sizes_before x h) count ∙ all_full x h fs rs rest each fit few at ∙ sym size;
    }

module _ (s : VendorFields) (p : VendorParts) (i : IsVendorInput s p) (t : VendorAccepted s)
    (m : AllSmall (vendor_sizes_for (length (concat p.ramdisks)) (length p.dtb) (length p.fragments)
    (length p.bootconfig))) where
  made_3 : s.version ≡ 3 → Made (vendor_header_of s p) (vendor_sections_for s.version p)
  made_3 e =
      let sizes = vendor_sizes_for (length (concat p.ramdisks)) (length p.dtb) (length p.fragments)
      (length p.bootconfig) in
      let f = front_made s (vendor_page_for s) sizes 2112 i.numbers t m.0 m.1.0 (lit< tt) in
      let h : vendor_header_of s p ≡ of_3 (vendor_front_for s (vendor_page_for s) sizes 2112) = rw e refl in
      let l : vendor_sections_for s.version p ≡ concat p.ramdisks ∷ p.dtb ∷ [] = rw e refl in
      subst (λ (w : Vendor). Made w (vendor_sections_for s.version p)) (sym h)
      (subst (λ (q : List (List ℕ)). Made (of_3 (vendor_front_for s (vendor_page_for s) sizes 2112)) q) (sym l)
      (record {
        fits = (f.0, tt);
        sized = (refl, (refl, tt));
        texts = f.1;
        offset = refl;
        fragments = λ x e has.
            absurd (false≢true has);
      }))

  made_4 : s.version ≡ 4 → Made (vendor_header_of s p) (vendor_sections_for s.version p)
  made_4 e =
      let sizes = vendor_sizes_for (length (concat p.ramdisks)) (length p.dtb) (length p.fragments)
      (length p.bootconfig) in
      let front = vendor_front_for s (vendor_page_for s) sizes 2128 in
      let tail = tail_for sizes (length p.fragments) in
      let f = front_made s (vendor_page_for s) sizes 2128 i.numbers t m.0 m.1.0 (lit< tt) in
      let h : vendor_header_of s p ≡ of_4 front tail = rw e refl in
      let table = table_for p.fragments (map (λ (l : List ℕ). length l) p.ramdisks) 0 in
      let l : vendor_sections_for s.version p ≡ concat p.ramdisks ∷ p.dtb ∷ table ∷ p.bootconfig ∷ [] = rw e refl in
      let none : 0 + length (concat p.ramdisks) ≤ 4294967295 = omega (arith, m.0) in
      let long : length table ≡ 108 * length p.fragments =
      table_long p.fragments p.ramdisks 0 (i.four e) i.fragments none in
      subst (λ (w : Vendor). Made w (vendor_sections_for s.version p)) (sym h)
      (subst (λ (q : List (List ℕ)). Made (of_4 front tail) q) (sym l)
      (record {
        fits = (
          f.0,
          record {
            table_size = small_number (108 * length p.fragments) m.1.1.0;
            entry_num = few_entries (length p.fragments) m.1.1.0;
            entry_size = lit< tt;
            bootconfig_size =
                small_number (length p.bootconfig) m.1.1.1.0;
            entries = refl;
            whole = refl;
          },
        );
        sized = (refl, (refl, (long, (refl, tt))));
        texts = f.1;
        offset = refl;
        fragments = fills front tail p.fragments p.ramdisks p.dtb p.bootconfig refl refl (i.four e) i.fragments m.0;
      }))

  made : Made (vendor_header_of s p) (vendor_sections_for s.version p)
  made =
      let low = t.low in
      let high = t.high in
      elim (cases_lt 3 s.version) [ inl a ↦ made_4 (omega arith) | inr a ↦ made_3 (omega arith) ]

made_of : (s : VendorFields) (p : VendorParts) → IsVendorInput s p
    → Made (vendor_header_of s p) (vendor_sections_for s.version p)
made_of s p i =
    let sizes = vendor_sizes_for (length (concat p.ramdisks)) (length p.dtb) (length p.fragments)
    (length p.bootconfig) in
    let r = neither (vendor_refusal s) (size_refusal vendor_names sizes) i.accepted in
    made s p i (vendor_accepted s r.0) (all_small vendor_names sizes (lit≤ tt) r.1)

pub vendor_starts : (x : List ℕ) → StartsAsVendor x → (v : Vendor) × IsPacked x (OfVendor v)
unfolding vendor_canon
vendor_starts x b =
    let v = vendor_header_of b.fields b.parts in
    let c = made_canonical x v (vendor_sections_for b.fields.version b.parts)
    (drop (length (vendor_canon b.fields b.parts)) x) (made_of b.fields b.parts b.input)
    (continues x (vendor_canon b.fields b.parts) b.front) in
    (v, c)

-- ---- what it holds

pub vendor_holds : (s : VendorFields) (p : VendorParts) (rest : List ℕ) → IsVendorInput s p
    → HoldsVendor (vendor_canon s p ++ rest) s p
unfolding vendor_canon
vendor_holds s p rest input =
    let v = vendor_header_of s p in
    let sections = vendor_sections_for s.version p in
    let x = vendor_image v sections ++ rest in
    let m = made_of s p input in
    let k = made_canonical x v sections rest m refl in
    let i = is_image (OfVendor v) sections rest m.fits m.sized in
    record {
      has = record { header = k.header; there = k.there; within = within_from x (OfVendor v) k.canonical.fragments };
      image = i;
      each = placed_parts x (places_of (OfVendor v)) sections i.placed;
    }

first : (a b c d e f g h : List ℕ) → a ∷ b ∷ c ∷ d ∷ [] ≡ e ∷ f ∷ g ∷ h ∷ [] → a ≡ e
first a b c d e f g h same = ap (λ (l : List (List ℕ)). get_or l 0 []) same

fragment_held : (f : VendorFront) (t : Tail) (fs : List FragmentSpec) (rs : List (List ℕ)) (d b : List ℕ)
    → t.entry_num ≡ length fs → f.vendor_ramdisk_size ≡ length (concat rs) → length fs ≡ length rs
    → All FragmentFits fs → length (concat rs) ≤ 4294967295
    → (x : List ℕ) → parts_of x (places_of (OfVendor (of_4 f t))) ≡ concat rs ∷ d
    ∷ table_for fs (map (λ (l : List ℕ). length l) rs) 0 ∷ b ∷ [] → (i : ℕ) → i < length rs
    → HoldsFragment x (OfVendor (of_4 f t)) fs rs i
fragment_held f t fs rs d b count size each fit few x e i lt =
    let h : Header = OfVendor (of_4 f t) in
    let table = table_for fs (map (λ (l : List ℕ). length l) rs) 0 in
    let ramdisk : take f.vendor_ramdisk_size (drop (ramdisk_at h) x) ≡ concat rs = first _ _ _ _ _ _ _ _ e in
    let here : take t.table_size (drop (table_at h) x) ≡ table = third _ _ _ _ _ _ _ _ e in
    let behind = drop t.table_size (drop (table_at h) x) in
    let past = drop f.vendor_ramdisk_size (drop (ramdisk_at h) x) in
    let at : drop (table_at h) x ≡ table ++ behind = sym (take-append-drop t.table_size (drop (table_at h) x))
    ∙ ap (λ (l : List ℕ). l ++ behind) here in
    let from : drop (ramdisk_at h) x ≡ concat rs ++ past =
    sym (take-append-drop f.vendor_ramdisk_size (drop (ramdisk_at h) x)) ∙ ap (λ (l : List ℕ). l ++ past) ramdisk in
    record {
      there = omega (arith, count, each, lt);
      entry = λ s is. entry_held x h fs rs behind each fit few at i s (omega (arith, each, lt)) is;
      bytes = fragment_is x h fs rs behind each fit few at past from i lt;
    }

pub vendor_fragment : (s : VendorFields) (p : VendorParts) (rest : List ℕ) (i : ℕ) → IsVendorInput s p → s.version ≡ 4
    → i < length p.ramdisks
    → HoldsFragment (vendor_canon s p ++ rest) (OfVendor (vendor_header_of s p)) p.fragments p.ramdisks i
vendor_fragment s p rest i input four lt =
    let x = vendor_canon s p ++ rest in
    let sizes = vendor_sizes_for (length (concat p.ramdisks)) (length p.dtb) (length p.fragments)
    (length p.bootconfig) in
    let front = vendor_front_for s (vendor_page_for s) sizes 2128 in
    let tail = tail_for sizes (length p.fragments) in
    let table = table_for p.fragments (map (λ (l : List ℕ). length l) p.ramdisks) 0 in
    let h : vendor_header_of s p ≡ of_4 front tail = rw four refl in
    let l : vendor_sections_for s.version p ≡ concat p.ramdisks ∷ p.dtb ∷ table ∷ p.bootconfig ∷ [] = rw four refl in
    let each : parts_of x (places_of (OfVendor (of_4 front tail))) ≡ concat p.ramdisks ∷ p.dtb ∷ table ∷ p.bootconfig
    ∷ [] =
    ap (λ (v : Vendor). parts_of x (places_of (OfVendor v))) (sym h) ∙ (vendor_holds s p rest input).each ∙ l in
    let r = neither (vendor_refusal s) (size_refusal vendor_names sizes) input.accepted in
    let small = all_small vendor_names sizes (lit≤ tt) r.1 in
    subst (λ (v : Vendor). HoldsFragment x (OfVendor v) p.fragments p.ramdisks i) (sym h)
    (fragment_held front tail p.fragments p.ramdisks p.dtb p.bootconfig refl refl
    (input.four four) input.fragments small.0 x each i lt)
