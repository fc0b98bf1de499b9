-- The words of a canonical image say all that packs it again.
use Rattle.std.proofs.Common.{◌≡◌, ℕ, zero, suc, ◌*◌, ◌<◌, ◌≤◌, ◌^◌, ◌||◌, true, false, inl, inr, List, [], ◌∷◌, ◌++◌}
use Rattle.std.proofs.Common.{Option, Some, None, codes, decimal, length, slice_index, slice_index_or, refl, sym, ap}
use Rattle.std.proofs.Common.{subst, ◌∙◌, arith, lit<, lit≤}
use Rattle.std.specs.List.{All, concat}
use Rattle.std.proofs.lemmas.Bool.{cases_Bool, cases_lt}
use Rattle.std.proofs.lemmas.List.Elements.{All-get_or}
use Rattle.std.proofs.Math.ListN.{get_or-append}
use Rattle.std.proofs.Math.Seq.{get_or-append_seam}
use Rattle.abt_io.specs.Bytes.{AreBytes}
use Rattle.abt_headers.specs.declared.boot.BootHeader.{BootHeader}
use Rattle.abt_headers.specs.declared.boot.BootHeader.TheVariants.{V0, V1, V2, V3, V4}
use Rattle.abt_headers.specs.declared.vendor.VendorFront.{VendorFront}
use Rattle.abt_headers.specs.Os.{os_parts}
use Rattle.abt_headers.specs.Vendor.{Tail, Vendor}
use Rattle.abt_sections.specs.declared.spec.FragmentSpec.{FragmentSpec}
use Rattle.abt_sections.specs.Canonical.{FragmentFits, IsVendorInput}
use Rattle.abt_sections.specs.Fields.{VendorFields}
use Rattle.abt_sections.specs.Header.{Header, OfBoot, OfVendor, entry_of, fragment_count}
use Rattle.abt_sections.specs.Refusal.{size_refusal, vendor_names, vendor_refusal}
use Rattle.abt_sections.specs.VendorCanon.{VendorParts, vendor_sizes_for}
use Rattle.abt_sections.proofs.Accepting.{all_small, neither}
use Rattle.law_boot.specs.Said.{AreBoards, SaysEach, SaysFragments, SaysHeader, without_front, board_id_of}
use Rattle.law_boot.specs.Said.{number_after, is_said, is_whole, values_of, vendor_fields_of, with_value}
use Rattle.law_boot.specs.WayBack.{PacksFromParts, SaysImage, spec_of, specs_of, vendor_parts_with}
use Rattle.cmd_common_texts.specs.Words.{flag_word, image_words, is_month, option_front, os_option, os_text}
use Rattle.law_boot.proofs.FilesSay.{files_said}
use Rattle.law_boot.proofs.FragmentsSay.{fragments_said, no_board_at, none_at, specs_long}

-- ---- the word of the OS version is no other

os_is_none : (front : List ℕ) (n : ℕ) → ((t : List ℕ) → without_front front (codes "--os=" ++ t) ≡ None)
    → ((t : List ℕ) → without_front front (codes "--os-number=" ++ t) ≡ None) → without_front front (os_option n) ≡ None
os_is_none front n word number = elim (cases_Bool (is_month (os_parts n).month)) [
  | inl e ↦
      let said : os_option n ≡ codes "--os=" ++ os_text (os_parts n) = rw e refl in
      ap (without_front front) said ∙ word (os_text (os_parts n))
  | inr e ↦
      let said : os_option n ≡ codes "--os-number=" ++ decimal n = rw e refl in
      ap (without_front front) said ∙ number (decimal n)
]

no_value : (name : List ℕ) (n : ℕ) → without_front (option_front name) (os_option n) ≡ None
    → with_value (without_front (option_front name) (os_option n)) [] ≡ []
no_value name n e = ap (λ (o : Option (List ℕ)). with_value o []) e

no_flag : (name : List ℕ) (n : ℕ) → without_front (flag_word name) (os_option n) ≡ None
    → (is_whole (without_front (flag_word name) (os_option n)) || false) ≡ false
no_flag name n e = ap (λ (o : Option (List ℕ)). is_whole o || false) e

-- ---- boot images

none_set : (i k : ℕ) → slice_index (board_id_of [] i) k ≡ number_after 0 [] i k
none_set i k = ap (λ (l : List ℕ). slice_index l k) (no_board_at i) ∙ none_at k

no_words : (folder : List ℕ) (words : List (List ℕ)) → values_of (codes "fragment") words ≡ []
    → values_of (codes "board-id") words ≡ [] → SaysFragments words folder []
no_words folder words f g = record {
  each = subst (λ (vs : List (List ℕ)). SaysEach folder vs 0 []) (sym f) tt;
  boards = [];
  are_boards = subst (λ (vs : List (List ℕ)). AreBoards 0 vs []) (sym g) tt;
  board_ids = none_set;
}

module _ (folder x : List ℕ) where
  no_fragments : (words : List (List ℕ)) (n : ℕ)
      → values_of (codes "fragment") words ≡ with_value (without_front (option_front (codes "fragment"))
      (os_option n)) []
      → values_of (codes "board-id") words ≡ with_value (without_front (option_front (codes "board-id"))
      (os_option n)) [] → SaysFragments words folder []
  no_fragments words n a b =
      let f : values_of (codes "fragment") words ≡ [] =
      a ∙ no_value (codes "fragment") n (os_is_none (option_front (codes "fragment")) n (λ t. refl) (λ t. refl)) in
      let g : values_of (codes "board-id") words ≡ [] =
      b ∙ no_value (codes "board-id") n (os_is_none (option_front (codes "board-id")) n (λ t. refl) (λ t. refl)) in
      no_words folder words f g

  boot_fragments : (h : BootHeader) → SaysFragments (image_words folder x (OfBoot h)) folder []
  boot_fragments (V0 f) = no_fragments (image_words folder x (OfBoot (V0 f))) f.os_version.number refl refl
  boot_fragments (V1 f d) = no_fragments (image_words folder x (OfBoot (V1 f d))) f.os_version.number refl refl
  boot_fragments (V2 f d t) = no_fragments (image_words folder x (OfBoot (V2 f d t))) f.os_version.number refl refl
  boot_fragments (V3 f) = no_fragments (image_words folder x (OfBoot (V3 f))) f.os_version.number refl refl
  boot_fragments (V4 f signature) =
      no_fragments (image_words folder x (OfBoot (V4 f signature))) f.os_version.number refl refl

  no_vendor : (n : ℕ) → (is_whole (without_front (flag_word (codes "vendor")) (os_option n)) || false) ≡ false
  no_vendor n = no_flag (codes "vendor") n (os_is_none (flag_word (codes "vendor")) n (λ t. refl) (λ t. refl))

  boot_kind : (h : BootHeader) → is_said (codes "vendor") (image_words folder x (OfBoot h)) ≡ false
  boot_kind (V0 f) = no_vendor f.os_version.number
  boot_kind (V1 f d) = no_vendor f.os_version.number
  boot_kind (V2 f d t) = no_vendor f.os_version.number
  boot_kind (V3 f) = no_vendor f.os_version.number
  boot_kind (V4 f signature) = no_vendor f.os_version.number

-- ---- vendor boot images

-- fragment i of the first k
spec_at : (x : List ℕ) (h : Header) (k i : ℕ) (d : FragmentSpec) → i < k
    → slice_index_or (specs_of x h k) i d ≡ spec_of (entry_of x h i)
spec_at x h zero i d l = absurd (let q : i < 0 = l in omega arith)
spec_at x h (suc k) i d l =
    let fs = specs_of x h k in
    let f = spec_of (entry_of x h k) in
    let long = specs_long [] x h k in
    elim (cases_lt i k) [
      | inl less ↦ get_or-append fs (f ∷ []) d i (omega (arith, less, long)) ∙ spec_at x h k i d less
      | inr more ↦
          let last : i ≡ k = omega (arith, l, more) in
          let end : i ≡ length fs = last ∙ sym long in
          ap (λ (n : ℕ). slice_index_or (fs ++ (f ∷ [])) n d) end ∙ get_or-append_seam fs f [] d
          ∙ ap (λ (n : ℕ). spec_of (entry_of x h n)) (sym last)
    ]

-- fragments that packing takes fit an entry of the table
entry_fits : (x : List ℕ) (h : Header) (k : ℕ) → All FragmentFits (specs_of x h k) → (i : ℕ) → i < k
    → FragmentFits (spec_of (entry_of x h i))
entry_fits x h k all i l =
    let f = spec_of (entry_of x h i) in
    let there : i < length (specs_of x h k) = let long = specs_long [] x h k in omega (arith, long, l) in
    subst FragmentFits (spec_at x h k i f l) (All-get_or FragmentFits (specs_of x h k) i f there all)

few_fragments : (s : VendorFields) (p : VendorParts) → IsVendorInput s p → length p.fragments < 2 ^ 32
few_fragments s p input =
    let sizes = vendor_sizes_for (length (concat p.ramdisks)) (length p.dtb) (length p.fragments)
    (length p.bootconfig) in
    let r = neither (vendor_refusal s) (size_refusal vendor_names sizes) input.accepted in
    let small = all_small vendor_names sizes (lit≤ tt) r.1 in
    let table : 108 * length p.fragments ≤ 4294967295 = small.1.1.0 in
    omega (arith, table)

module _ (folder x : List ℕ) (bytes : AreBytes folder) (image : AreBytes x) where
  vendor_fragments : (f : VendorFront) (o : Option Tail) → (let v : Vendor = record { front = f; tail = o } in
      IsVendorInput (vendor_fields_of v) (vendor_parts_with x v o)
      → SaysFragments (image_words folder x (OfVendor v)) folder
      (specs_of x (OfVendor v) (fragment_count (OfVendor v))))
  vendor_fragments f None taken = fragments_said folder x (record { front = f; tail = None }) bytes image (lit< tt)
      (λ i l. absurd (let q : i < 0 = l in omega arith))
  vendor_fragments f (Some t) taken =
      let v : Vendor = record { front = f; tail = Some t } in
      let count = few_fragments (vendor_fields_of v) (vendor_parts_with x v (Some t)) taken in
      let long = specs_long folder x (OfVendor v) t.entry_num in
      fragments_said folder x v bytes image (omega (arith, count, long))
      (entry_fits x (OfVendor v) t.entry_num taken.fragments)

  vendor_flags : (f : VendorFront) (o : Option Tail) → (let v : Vendor = record { front = f; tail = o } in
      (is_said (codes "escaped") (image_words folder x (OfVendor v)) ≡ true)
      × (is_said (codes "vendor") (image_words folder x (OfVendor v)) ≡ true))
  vendor_flags f None = (refl, refl)
  vendor_flags f (Some t) = (refl, refl)

  pub image_said : (h : Header) → SaysHeader (image_words folder x h) h → PacksFromParts x h
      → SaysImage (image_words folder x h) folder x h
  image_said (OfBoot h) says packs = record {
    escaped = refl;
    vendor = boot_kind folder x h;
    fields = says;
    files = files_said folder x bytes (OfBoot h);
    fragments = boot_fragments folder x h;
  }
  image_said (OfVendor v) says packs =
      let flags = vendor_flags v.front v.tail in
      record {
        escaped = flags.0;
        vendor = flags.1;
        fields = says;
        files = files_said folder x bytes (OfVendor v);
        fragments = vendor_fragments v.front v.tail packs.taken;
      }
