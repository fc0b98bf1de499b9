-- The words of an image say no base and no offset.
use Rattle.std.proofs.Common.{inl, inr, ◌≡◌, ℕ, zero, suc, ◌==◌, Bool, true, false, cond, List, [], ◌∷◌, ◌++◌, Option}
use Rattle.std.proofs.Common.{Some, None, codes, decimal, flat_map, refl, sym, ap, ◌∙◌}
use Rattle.std.proofs.lemmas.Bool.{cases_Bool}
use Rattle.abt_headers.specs.declared.boot.BootHeader.{BootHeader}
use Rattle.abt_headers.specs.declared.boot.BootHeader.TheVariants.{V0, V1, V2, V3, V4}
use Rattle.abt_headers.specs.declared.vendor.VendorFront.{VendorFront}
use Rattle.abt_headers.specs.Os.{os_parts}
use Rattle.abt_headers.specs.Vendor.{Tail}
use Rattle.abt_sections.specs.Header.{Header, OfBoot, OfVendor, entry_of}
use Rattle.law_boot.specs.Said.{without_front, first_of, value_of}
use Rattle.cmd_common_texts.specs.Info as info
use Rattle.cmd_common_texts.specs.Words.{escaped_in_name, fragment_option, name_bytes}
use Rattle.cmd_common_texts.specs.Words.{board_option, board_word, board_words, entry_words, fragment_words}
use Rattle.cmd_common_texts.specs.Words.{image_words}
use Rattle.cmd_common_texts.specs.Words.{is_month, option_front, os_option, os_text}

pub record SaysNoSum (words : List (List ℕ)) : Type 0 where
  pub base : value_of (codes "base") words ≡ None
  pub kernel : value_of (codes "kernel-offset") words ≡ None
  pub ramdisk : value_of (codes "ramdisk-offset") words ≡ None
  pub second : value_of (codes "second-offset") words ≡ None
  pub tags : value_of (codes "tags-offset") words ≡ None
  pub dtb : value_of (codes "dtb-offset") words ≡ None

-- ---- boot images: the word of the OS version is no other

no_os : (name : List ℕ) (n : ℕ) → ((t : List ℕ) → value_of name ((codes "--os=" ++ t) ∷ []) ≡ None)
    → ((t : List ℕ) → value_of name ((codes "--os-number=" ++ t) ∷ []) ≡ None) → value_of name (os_option n ∷ []) ≡ None
no_os name n word number = elim (cases_Bool (is_month (os_parts n).month)) [
  | inl e ↦
      let said : os_option n ≡ codes "--os=" ++ os_text (os_parts n) = rw e refl in
      ap (λ (w : List ℕ). value_of name (w ∷ [])) said ∙ word (os_text (os_parts n))
  | inr e ↦
      let said : os_option n ≡ codes "--os-number=" ++ decimal n = rw e refl in
      ap (λ (w : List ℕ). value_of name (w ∷ [])) said ∙ number (decimal n)
]

os_alone : (n : ℕ) → SaysNoSum (os_option n ∷ [])
os_alone n = record {
  base = no_os (codes "base") n (λ t. refl) (λ t. refl);
  kernel = no_os (codes "kernel-offset") n (λ t. refl) (λ t. refl);
  ramdisk = no_os (codes "ramdisk-offset") n (λ t. refl) (λ t. refl);
  second = no_os (codes "second-offset") n (λ t. refl) (λ t. refl);
  tags = no_os (codes "tags-offset") n (λ t. refl) (λ t. refl);
  dtb = no_os (codes "dtb-offset") n (λ t. refl) (λ t. refl);
}

-- words that say no more of them than others
of_others : (words others : List (List ℕ)) → SaysNoSum others
    → value_of (codes "base") words ≡ value_of (codes "base") others
    → value_of (codes "kernel-offset") words ≡ value_of (codes "kernel-offset") others
    → value_of (codes "ramdisk-offset") words ≡ value_of (codes "ramdisk-offset") others
    → value_of (codes "second-offset") words ≡ value_of (codes "second-offset") others
    → value_of (codes "tags-offset") words ≡ value_of (codes "tags-offset") others
    → value_of (codes "dtb-offset") words ≡ value_of (codes "dtb-offset") others → SaysNoSum words
of_others words others s a b c d e f = record {
  base = a ∙ s.base;
  kernel = b ∙ s.kernel;
  ramdisk = c ∙ s.ramdisk;
  second = d ∙ s.second;
  tags = e ∙ s.tags;
  dtb = f ∙ s.dtb;
}

boot_no_sum : (folder x : List ℕ) (h : BootHeader) → SaysNoSum (image_words folder x (OfBoot h))
boot_no_sum folder x (V0 f) = of_others (image_words folder x (OfBoot (V0 f))) (os_option f.os_version.number ∷ [])
    (os_alone f.os_version.number) refl refl refl refl refl refl
boot_no_sum folder x (V1 f d) = of_others (image_words folder x (OfBoot (V1 f d))) (os_option f.os_version.number ∷ [])
    (os_alone f.os_version.number) refl refl refl refl refl refl
boot_no_sum folder x (V2 f d t) = of_others (image_words folder x (OfBoot (V2 f d t)))
    (os_option f.os_version.number ∷ []) (os_alone f.os_version.number) refl refl refl refl refl refl
boot_no_sum folder x (V3 f) = of_others (image_words folder x (OfBoot (V3 f))) (os_option f.os_version.number ∷ [])
    (os_alone f.os_version.number) refl refl refl refl refl refl
boot_no_sum folder x (V4 f s) = of_others (image_words folder x (OfBoot (V4 f s))) (os_option f.os_version.number ∷ [])
    (os_alone f.os_version.number) refl refl refl refl refl refl

-- ---- vendor boot images: those of the fragments are no other

first_none : (a b : Option (List ℕ)) → a ≡ None → b ≡ None → first_of a b ≡ None
first_none a b e f = ap (λ (o : Option (List ℕ)). first_of o b) e ∙ f

first_first : (a b c : Option (List ℕ)) → first_of a (first_of b c) ≡ first_of (first_of a b) c
first_first (Some v) b c = refl
first_first None b c = refl

value_both : (name : List ℕ) (a b : List (List ℕ))
    → value_of name (a ++ b) ≡ first_of (value_of name a) (value_of name b)
value_both name [] b = refl
value_both name (w ∷ a) b = ap (first_of (without_front (option_front name) w)) (value_both name a b) ∙ first_first
    (without_front (option_front name) w) (value_of name a) (value_of name b)

none_both : (name : List ℕ) (a b : List (List ℕ)) → value_of name a ≡ None → value_of name b ≡ None
    → value_of name (a ++ b) ≡ None
none_both name a b e f = value_both name a b ∙ first_none (value_of name a) (value_of name b) e f

module _ (name : List ℕ) (no_fragment : (t : List ℕ)
    → without_front (option_front name) (codes "--fragment=" ++ t) ≡ None)
    (no_board : (t : List ℕ) → without_front (option_front name) (codes "--board-id=" ++ t) ≡ None) where
  one_board : (left_out : Bool) (i k n : ℕ) → value_of name (cond left_out [] (board_option i k n ∷ [])) ≡ None
  one_board true i k n = refl
  one_board false i k n = first_none (without_front (option_front name) (board_option i k n)) None
      (no_board (decimal i ++ (codes ":" ++ (decimal k ++ (codes "=" ++ decimal n))))) refl

  in_boards : (i k : ℕ) (ns : List ℕ) → value_of name (board_words i k ns) ≡ None
  in_boards i k [] = refl
  in_boards i k (n ∷ ns) = none_both name (board_word i k n) (board_words i (suc k) ns) (one_board (n == 0) i k n)
      (in_boards i (suc k) ns)

  in_fragments : (folder x : List ℕ) (h : Header) (k : ℕ) → value_of name (fragment_words folder x h k) ≡ None
  in_fragments folder x h zero = refl
  in_fragments folder x h (suc k) =
      let e = entry_of x h k in
      let value = decimal e.ramdisk_type ++ (codes ":" ++ (flat_map escaped_in_name (name_bytes e.name)
      ++ (codes ":" ++ (flat_map info.escaped folder ++ (codes "/fragment." ++ decimal k))))) in
      let word = fragment_option k e.ramdisk_type (name_bytes e.name) folder in
      let boards = board_words k 0 e.board_id in
      none_both name (fragment_words folder x h k) (entry_words folder k e) (in_fragments folder x h k)
      (first_none (without_front (option_front name) word) (value_of name boards) (no_fragment value)
      (in_boards k 0 e.board_id))

fragments_alone : (folder x : List ℕ) (h : Header) (k : ℕ) → SaysNoSum (fragment_words folder x h k)
fragments_alone folder x h k = record {
  base = in_fragments (codes "base") (λ t. refl) (λ t. refl) folder x h k;
  kernel = in_fragments (codes "kernel-offset") (λ t. refl) (λ t. refl) folder x h k;
  ramdisk = in_fragments (codes "ramdisk-offset") (λ t. refl) (λ t. refl) folder x h k;
  second = in_fragments (codes "second-offset") (λ t. refl) (λ t. refl) folder x h k;
  tags = in_fragments (codes "tags-offset") (λ t. refl) (λ t. refl) folder x h k;
  dtb = in_fragments (codes "dtb-offset") (λ t. refl) (λ t. refl) folder x h k;
}

vendor_no_sum : (folder x : List ℕ) (f : VendorFront) (o : Option Tail)
    → SaysNoSum (image_words folder x (OfVendor (record { front = f; tail = o })))
vendor_no_sum folder x f None =
    record { base = refl; kernel = refl; ramdisk = refl; second = refl; tags = refl; dtb = refl }
vendor_no_sum folder x f (Some t) =
    let h : Header = OfVendor (record { front = f; tail = Some t }) in
    of_others (image_words folder x h) (fragment_words folder x h t.entry_num) (fragments_alone folder x h t.entry_num)
    refl refl refl refl refl refl

pub says_no_sum : (folder x : List ℕ) (h : Header) → SaysNoSum (image_words folder x h)
says_no_sum folder x (OfBoot h) = boot_no_sum folder x h
says_no_sum folder x (OfVendor v) = vendor_no_sum folder x v.front v.tail
