-- The fields of a header that was made of fields pack the same header again.
use Rattle.std.proofs.Common.{◌≡◌, ℕ, zero, suc, ◌+◌, ◌≤◌, ◌<◌, ◌^◌, inl, inr, Bool, true, false, cond, not, ◌==◌, List}
use Rattle.std.proofs.Common.{[], ◌∷◌, ◌++◌, length, take, drop, map, replicate, refl, sym, ap, subst, ◌∙◌}
use Rattle.std.proofs.Common.{arith, lit<, ◌⊎◌}
use Rattle.std.proofs.lemmas.Bool.{and_parts, cases_lt}
use Rattle.std.proofs.lemmas.List.Sums.{take_while-cons}
use Rattle.abt_headers.specs.declared.page.PageSize.{PageSize}
use Rattle.abt_headers.specs.declared.boot.BootHeader.{BootHeader}
use Rattle.abt_headers.specs.declared.boot.BootHeader.TheVariants.{V0, V1, V2, V3}
use Rattle.abt_headers.specs.Page.{page_bytes, page_from}
use Rattle.abt_headers.specs.Vendor.{Vendor}
use Rattle.abt_sections.specs.Fields.{BootFields, VendorFields, filled, is_text, no_zero}
use Rattle.abt_sections.specs.Refusal.{boot_names, boot_refusal, size_refusal, vendor_names, vendor_refusal}
use Rattle.abt_sections.specs.BootCanon.{boot_header_of, boot_header_with, boot_page_for, dtb_for, dtbo_for, front_with}
use Rattle.abt_sections.specs.BootCanon.{id_for, page_or, short_for}
use Rattle.abt_sections.specs.VendorCanon.{VendorParts, vendor_header_for, vendor_header_of, vendor_page_for}
use Rattle.abt_sections.specs.VendorCanon.{vendor_sizes_for}
use Rattle.std.specs.List.{concat}
use Rattle.abt_sections.specs.Canonical.{IsBootInput, IsVendorInput}
use Rattle.abt_sections.proofs.Accepting.{boot_accepted, boot_passes, neither, none_of, page_again, page_is_some}
use Rattle.abt_sections.proofs.Accepting.{text_parts, vendor_accepted, vendor_passes}
use Rattle.abt_sections.proofs.Canons.{five}
use Rattle.abt_sections.proofs.FieldTexts.{two_fields}
use Rattle.law_boot.specs.Said.{boot_fields_of, vendor_fields_of}
use Rattle.cmd_common_texts.specs.Words.{text_of, text_over}

-- ---- texts

-- zeros behind a text end it
pub text_back : (t : List ℕ) (k : ℕ) → no_zero t ≡ true → text_of (t ++ replicate k 0) ≡ t
text_back [] zero e = refl
text_back [] (suc k) e = refl
text_back (b ∷ t) k e =
    let p = and_parts (not (b == 0)) (no_zero t) e in
    take_while-cons (λ (c : ℕ). not (c == 0)) b (t ++ replicate k 0)
    ∙ ap (λ (c : Bool). cond c (b ∷ text_of (t ++ replicate k 0)) []) p.0
    ∙ ap (λ (l : List ℕ). b ∷ l) (text_back t k p.1)

pub field_back : (n m : ℕ) (t : List ℕ) → is_text m t ≡ true → text_of (filled n t) ≡ t
field_back n m t e = text_back t _ (text_parts m t e).1

-- and of a text that lies over two fields
pub fields_back : (t : List ℕ) → is_text 1535 t ≡ true → text_over (filled 512 (take 512 t))
    (filled 1024 (drop 512 t)) ≡ t
fields_back t e =
    let p = text_parts 1535 t e in
    let fits : length t ≤ 512 + 1024 = omega (arith, p.0) in
    ap text_of (two_fields 512 1024 t fits) ∙ text_back t _ p.1

page_kept : (p : PageSize) → page_or (page_from (page_bytes p)) ≡ p
page_kept p = ap page_or (page_again p)

-- ---- boot images

abbrev with_version : BootFields → ℕ → BootFields
with_version s v = record {
  version = v;
  page = s.page;
  kernel_addr = s.kernel_addr;
  ramdisk_addr = s.ramdisk_addr;
  second_addr = s.second_addr;
  tags_addr = s.tags_addr;
  dtb_addr = s.dtb_addr;
  os = s.os;
  name = s.name;
  cmdline = s.cmdline;
}

-- what is kept of fields in a header of versions 0 to 2
abbrev front_kept : ℕ → ℕ → BootFields → List ℕ → List ℕ → BootFields
front_kept v dtb s name cmdline = record {
  version = v;
  page = page_bytes (page_or (page_from s.page));
  kernel_addr = s.kernel_addr;
  ramdisk_addr = s.ramdisk_addr;
  second_addr = s.second_addr;
  tags_addr = s.tags_addr;
  dtb_addr = dtb;
  os = s.os;
  name = name;
  cmdline = cmdline;
}

-- and of versions 3 and 4
abbrev short_kept : ℕ → BootFields → List ℕ → BootFields
short_kept v s cmdline = record {
  version = v;
  page = 4096;
  kernel_addr = 0;
  ramdisk_addr = 0;
  second_addr = 0;
  tags_addr = 0;
  dtb_addr = 0;
  os = s.os;
  name = [];
  cmdline = cmdline;
}

-- the fields t are taken with these parts, and make the header h of them
pub record Makes (t : BootFields) (parts : List (List ℕ)) (h : BootHeader) : Type 0 where
  pub taken : IsBootInput t parts
  pub same : boot_header_of t parts ≡ h

front_taken : (s : BootFields) (parts : List (List ℕ)) (dtb : ℕ) → s.version < 3 → dtb < 2 ^ 64 → IsBootInput s parts
    → IsBootInput (front_kept s.version dtb s s.name s.cmdline) parts
front_taken s parts dtb low fits input =
    let r = neither (boot_refusal s) (size_refusal (boot_names s.version) (map length parts)) input.accepted in
    let a = boot_accepted s r.0 in
    let n = input.numbers in
    let t = front_kept s.version dtb s s.name s.cmdline in
    record {
      numbers = record {
        kernel_addr = n.kernel_addr;
        ramdisk_addr = n.ramdisk_addr;
        second_addr = n.second_addr;
        tags_addr = n.tags_addr;
        dtb_addr = fits;
        os = n.os;
      };
      count = input.count;
      accepted = none_of (boot_refusal t) (size_refusal (boot_names s.version) (map length parts))
          (boot_passes t a.version (page_is_some (page_or (page_from s.page))) (a.name low) a.cmdline) r.1;
    }

short_taken : (s : BootFields) (parts : List (List ℕ)) → IsBootInput s parts
    → IsBootInput (short_kept s.version s s.cmdline) parts
short_taken s parts input =
    let r = neither (boot_refusal s) (size_refusal (boot_names s.version) (map length parts)) input.accepted in
    let a = boot_accepted s r.0 in
    let t = short_kept s.version s s.cmdline in
    record {
      numbers = record {
        kernel_addr = lit< tt;
        ramdisk_addr = lit< tt;
        second_addr = lit< tt;
        tags_addr = lit< tt;
        dtb_addr = lit< tt;
        os = input.numbers.os;
      };
      count = input.count;
      accepted = none_of (boot_refusal t) (size_refusal (boot_names s.version) (map length parts))
          (boot_passes t a.version refl refl a.cmdline) r.1;
    }

texts_kept : (s : BootFields) (parts : List (List ℕ)) → IsBootInput s parts
    → (s.version < 3 → is_text 15 s.name ≡ true) × (is_text 1535 s.cmdline ≡ true)
texts_kept s parts input =
    let r = neither (boot_refusal s) (size_refusal (boot_names s.version) (map length parts)) input.accepted in
    let a = boot_accepted s r.0 in
    (a.name, a.cmdline)

-- the fields of the header that was made of s and these parts
abbrev Again : List (List ℕ) → BootFields → Type 0
Again parts s = Makes (boot_fields_of (boot_header_of s parts)) parts (boot_header_of s parts)

front_texts : (v dtb : ℕ) (s : BootFields) (name cmdline : List ℕ) → name ≡ s.name → cmdline ≡ s.cmdline
    → front_kept v dtb s s.name s.cmdline ≡ front_kept v dtb s name cmdline
front_texts v dtb s name cmdline a b = ap (λ (l : List ℕ). front_kept v dtb s l s.cmdline) (sym a)
    ∙ ap (λ (l : List ℕ). front_kept v dtb s name l) (sym b)

again_0 : (s : BootFields) (parts : List (List ℕ)) → IsBootInput (with_version s 0) parts
    → Again parts (with_version s 0)
unfolding boot_header_with
again_0 s parts input =
    let s0 = with_version s 0 in
    let t = texts_kept s0 parts input in
    let sizes = filled 5 (map length parts) in
    let id = id_for 0 parts in
    let h = V0 (front_with false s0 (boot_page_for s0) sizes id) in
    subst (λ (k : BootFields). Makes k parts h) (front_texts 0 0 s _ _ (field_back 16 15 s.name (t.0 (lit< tt)))
    (fields_back s.cmdline t.1)) (record {
      taken = front_taken s0 parts 0 (lit< tt) (lit< tt) input;
      same = ap (λ (p : PageSize). V0 (front_with false s0 p sizes id)) (page_kept (boot_page_for s0));
    })

again_1 : (s : BootFields) (parts : List (List ℕ)) → IsBootInput (with_version s 1) parts
    → Again parts (with_version s 1)
unfolding boot_header_with
again_1 s parts input =
    let s1 = with_version s 1 in
    let t = texts_kept s1 parts input in
    let sizes = filled 5 (map length parts) in
    let id = id_for 1 parts in
    let h = V1 (front_with false s1 (boot_page_for s1) sizes id) (dtbo_for (boot_page_for s1) sizes 1648) in
    subst (λ (k : BootFields). Makes k parts h) (front_texts 1 0 s _ _ (field_back 16 15 s.name (t.0 (lit< tt)))
    (fields_back s.cmdline t.1)) (record {
      taken = front_taken s1 parts 0 (lit< tt) (lit< tt) input;
      same = ap (λ (p : PageSize). V1 (front_with false s1 p sizes id) (dtbo_for p sizes 1648))
          (page_kept (boot_page_for s1));
    })

again_2 : (s : BootFields) (parts : List (List ℕ)) → IsBootInput (with_version s 2) parts
    → Again parts (with_version s 2)
unfolding boot_header_with
again_2 s parts input =
    let s2 = with_version s 2 in
    let t = texts_kept s2 parts input in
    let sizes = filled 5 (map length parts) in
    let id = id_for 2 parts in
    let h = V2 (front_with false s2 (boot_page_for s2) sizes id) (dtbo_for (boot_page_for s2) sizes 1660)
    (dtb_for s2 sizes) in
    subst (λ (k : BootFields). Makes k parts h) (front_texts 2 s.dtb_addr s _ _
    (field_back 16 15 s.name (t.0 (lit< tt))) (fields_back s.cmdline t.1)) (record {
      taken = front_taken s2 parts s.dtb_addr (lit< tt) input.numbers.dtb_addr input;
      same = ap (λ (p : PageSize). V2 (front_with false s2 p sizes id) (dtbo_for p sizes 1660) (dtb_for s2 sizes))
          (page_kept (boot_page_for s2));
    })

again_3 : (s : BootFields) (parts : List (List ℕ)) → IsBootInput (with_version s 3) parts
    → Again parts (with_version s 3)
unfolding boot_header_with
again_3 s parts input =
    let s3 = with_version s 3 in
    let t = texts_kept s3 parts input in
    subst (λ (k : BootFields). Makes k parts (V3 (short_for s3 (filled 5 (map length parts)) 1580)))
    (ap (λ (l : List ℕ). short_kept 3 s l) (sym (field_back 1536 1535 s.cmdline t.1)))
    (record { taken = short_taken s3 parts input; same = refl })

again_4 : (s : BootFields) (parts : List (List ℕ)) → IsBootInput (with_version s 4) parts
    → Again parts (with_version s 4)
unfolding boot_header_with
again_4 s parts input =
    let s4 = with_version s 4 in
    let t = texts_kept s4 parts input in
    let sizes = filled 5 (map length parts) in
    subst (λ (k : BootFields). Makes k parts (boot_header_of s4 parts))
    (ap (λ (l : List ℕ). short_kept 4 s l) (sym (field_back 1536 1535 s.cmdline t.1)))
    (record { taken = short_taken s4 parts input; same = refl })

at_version : (s : BootFields) (parts : List (List ℕ)) (v : ℕ) → s.version ≡ v
    → (IsBootInput (with_version s v) parts → Again parts (with_version s v)) → IsBootInput s parts → Again parts s
at_version s parts v e again = subst (λ (k : ℕ). IsBootInput (with_version s k) parts
    → Again parts (with_version s k)) (sym e) again

pub boot_again : (s : BootFields) (parts : List (List ℕ)) → IsBootInput s parts
    → Makes (boot_fields_of (boot_header_of s parts)) parts (boot_header_of s parts)
boot_again s parts input =
    let r = neither (boot_refusal s) (size_refusal (boot_names s.version) (map length parts)) input.accepted in
    let low = (boot_accepted s r.0).version in
    elim (five s.version low) [
      | inl e ↦ at_version s parts 0 e (again_0 s parts) input
      | inr e ↦ elim e [
        | inl e ↦ at_version s parts 1 e (again_1 s parts) input
        | inr e ↦ elim e [
          | inl e ↦ at_version s parts 2 e (again_2 s parts) input
          | inr e ↦ elim e [
            | inl e ↦ at_version s parts 3 e (again_3 s parts) input
            | inr e ↦ at_version s parts 4 e (again_4 s parts) input
          ]
        ]
      ]
    ]

-- ---- vendor boot images

-- what is kept of fields in a header
abbrev vendor_kept : ℕ → VendorFields → List ℕ → List ℕ → VendorFields
vendor_kept v s name cmdline = record {
  version = v;
  page = page_bytes (vendor_page_for s);
  kernel_addr = s.kernel_addr;
  ramdisk_addr = s.ramdisk_addr;
  tags_addr = s.tags_addr;
  dtb_addr = s.dtb_addr;
  name = name;
  cmdline = cmdline;
}

abbrev sizes_for : VendorParts → List ℕ
sizes_for p = vendor_sizes_for (length (concat p.ramdisks)) (length p.dtb) (length p.fragments) (length p.bootconfig)

abbrev with_vendor_version : VendorFields → ℕ → VendorFields
with_vendor_version s v = record {
  version = v;
  page = s.page;
  kernel_addr = s.kernel_addr;
  ramdisk_addr = s.ramdisk_addr;
  tags_addr = s.tags_addr;
  dtb_addr = s.dtb_addr;
  name = s.name;
  cmdline = s.cmdline;
}

-- the fields t of version n are taken with these parts, and make the header v of them
pub record MakesVendor (t : VendorFields) (p : VendorParts) (n : ℕ) (v : Vendor) : Type 0 where
  pub taken : IsVendorInput t p
  pub version : t.version ≡ n
  pub same : vendor_header_of t p ≡ v

abbrev VendorAgain : VendorParts → VendorFields → Type 0
VendorAgain p s = MakesVendor (vendor_fields_of (vendor_header_of s p)) p s.version (vendor_header_of s p)

vendor_taken : (s : VendorFields) (p : VendorParts) → IsVendorInput s p
    → IsVendorInput (vendor_kept s.version s s.name s.cmdline) p
vendor_taken s p input =
    let r = neither (vendor_refusal s) (size_refusal vendor_names (sizes_for p)) input.accepted in
    let a = vendor_accepted s r.0 in
    let n = input.numbers in
    let t = vendor_kept s.version s s.name s.cmdline in
    record {
      numbers = record {
        kernel_addr = n.kernel_addr;
        ramdisk_addr = n.ramdisk_addr;
        tags_addr = n.tags_addr;
        dtb_addr
            = n.dtb_addr;
      };
      fragments = input.fragments;
      three = input.three;
      four = input.four;
      accepted = none_of (vendor_refusal t) (size_refusal vendor_names (sizes_for p))
          (vendor_passes t a.low a.high (page_is_some (vendor_page_for s)) a.name a.cmdline) r.1;
    }

vendor_texts : (s : VendorFields) (p : VendorParts) → IsVendorInput s p → (text_of (filled 16 s.name) ≡ s.name)
    × (text_of (filled 2048 s.cmdline) ≡ s.cmdline)
vendor_texts s p input =
    let r = neither (vendor_refusal s) (size_refusal vendor_names (sizes_for p)) input.accepted in
    let a = vendor_accepted s r.0 in
    (field_back 16 15 s.name a.name, field_back 2048 2047 s.cmdline a.cmdline)

vendor_kept_is : (v : ℕ) (s : VendorFields) (name cmdline : List ℕ) → name ≡ s.name → cmdline ≡ s.cmdline
    → vendor_kept v s s.name s.cmdline ≡ vendor_kept v s name cmdline
vendor_kept_is v s name cmdline a b = ap (λ (l : List ℕ). vendor_kept v s l s.cmdline) (sym a)
    ∙ ap (λ (l : List ℕ). vendor_kept v s name l) (sym b)

vendor_again_3 : (s : VendorFields) (p : VendorParts) → IsVendorInput (with_vendor_version s 3) p
    → VendorAgain p (with_vendor_version s 3)
vendor_again_3 s p input =
    let s3 = with_vendor_version s 3 in
    let t = vendor_texts s3 p input in
    let count = length p.fragments in
    subst (λ (k : VendorFields). MakesVendor k p 3 (vendor_header_of s3 p)) (vendor_kept_is 3 s _ _ t.0 t.1) (record {
      taken = vendor_taken s3 p input;
      version = refl;
      same = ap (λ (q : PageSize). vendor_header_for s3 q (sizes_for p) count) (page_kept (vendor_page_for s3));
    })

vendor_again_4 : (s : VendorFields) (p : VendorParts) → IsVendorInput (with_vendor_version s 4) p
    → VendorAgain p (with_vendor_version s 4)
vendor_again_4 s p input =
    let s4 = with_vendor_version s 4 in
    let t = vendor_texts s4 p input in
    let count = length p.fragments in
    subst (λ (k : VendorFields). MakesVendor k p 4 (vendor_header_of s4 p)) (vendor_kept_is 4 s _ _ t.0 t.1) (record {
      taken = vendor_taken s4 p input;
      version = refl;
      same = ap (λ (q : PageSize). vendor_header_for s4 q (sizes_for p) count) (page_kept (vendor_page_for s4));
    })

at_vendor_version : (s : VendorFields) (p : VendorParts) (v : ℕ) → s.version ≡ v
    → (IsVendorInput (with_vendor_version s v) p → VendorAgain p (with_vendor_version s v)) → IsVendorInput s p
    → VendorAgain p s
at_vendor_version s p v e again = subst (λ (k : ℕ). IsVendorInput (with_vendor_version s k) p
    → VendorAgain p (with_vendor_version s k)) (sym e) again

-- a version that is taken is 3 or 4
pub three_or_four : (s : VendorFields) (p : VendorParts) → IsVendorInput s p → (s.version ≡ 3) ⊎ (s.version ≡ 4)
three_or_four s p input =
    let r = neither (vendor_refusal s) (size_refusal vendor_names (sizes_for p)) input.accepted in
    let a = vendor_accepted s r.0 in
    let low = a.low in
    let high = a.high in
    elim (cases_lt 3 s.version) [ inl l ↦ inr (omega arith) | inr l ↦ inl (omega arith) ]

pub vendor_again : (s : VendorFields) (p : VendorParts) → IsVendorInput s p
    → MakesVendor (vendor_fields_of (vendor_header_of s p)) p s.version (vendor_header_of s p)
vendor_again s p input = elim (three_or_four s p input) [
  | inl e ↦ at_vendor_version s p 3 e (vendor_again_3 s p) input
  | inr e ↦ at_vendor_version s p 4 e (vendor_again_4 s p) input
]
