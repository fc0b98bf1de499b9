-- The image of a vendor header that was made for fields and sizes is the canonical one.
use Rattle.std.proofs.Common.{◌≡◌, ℕ, ◌*◌, ◌≤◌, inl, inr, Bool, true, false, cond, List, [], ◌∷◌, ◌++◌, length, map}
use Rattle.std.proofs.Common.{refl, sym, ap, ◌∙◌, append_assoc, append-nil, arith, length-append, ◌==◌}
use Rattle.std.specs.Prelude.{sum}
use Rattle.std.specs.List.{concat}
use Rattle.std.proofs.lemmas.Bool.{cases_Bool, ne_eqb}
use Rattle.std.proofs.lemmas.List.Sums.{sum_by-cons, sum-map}
use Rattle.abt_headers.specs.declared.page.PageSize.{PageSize}
use Rattle.abt_headers.specs.Page.{page_bytes, pages}
use Rattle.abt_headers.specs.Vendor.{Vendor, vendor_page, vendor_record}
use Rattle.abt_sections.specs.Cause.{total}
use Rattle.abt_sections.specs.Fields.{VendorFields}
use Rattle.abt_sections.specs.Layout.{padded, laid}
use Rattle.abt_sections.specs.VendorCanon.{VendorParts, vendor_header_for, vendor_header_of, vendor_page_for}
use Rattle.abt_sections.specs.VendorCanon.{vendor_sizes_for, vendor_canon, first_sections, first_size}
use Rattle.abt_sections.specs.VendorCanon.{vendor_image_size, table_for, table_place}

-- ramdisks have as many bytes as they have end to end
pub concat_size : {S : Type 0} (size : S → ℕ) (content : S → List ℕ) (ps : List S)
    → ((s : S) → size s ≡ length (content s)) → total size ps ≡ length (concat (map content ps))
concat_size size content [] h = refl
concat_size size content (p ∷ ps) h =
    let r = concat_size size content ps h in
    let e = h p in
    omega (arith, sum_by-cons size p ps, length-append (content p) (concat (map content ps)), r, e)

-- the header that was made is the header of the canonical image
pub header_is : (s : VendorFields) (p : VendorParts) (page : PageSize) (sizes : List ℕ) (count ramdisk dtb config : ℕ)
    (v : Vendor) → v ≡ vendor_header_for s page sizes count → page ≡ vendor_page_for s
    → sizes ≡ vendor_sizes_for ramdisk dtb count config
    → ramdisk ≡ length (concat p.ramdisks) → dtb ≡ length p.dtb → count ≡ length p.fragments
    → config ≡ length p.bootconfig → v ≡ vendor_header_of s p
header_is s p page sizes count ramdisk dtb config v a b c r d n k =
    a
    ∙ ap (λ (q : PageSize). vendor_header_for s q sizes count) b
    ∙ ap (λ (z : List ℕ). vendor_header_for s (vendor_page_for s) z count) c
    ∙ ap (λ (z : ℕ). vendor_header_for s (vendor_page_for s) (vendor_sizes_for z dtb count config) count) r
    ∙ ap (λ (z : ℕ). vendor_header_for s (vendor_page_for s)
    (vendor_sizes_for (length (concat p.ramdisks)) z count config) count) d
    ∙ ap (λ (z : ℕ). vendor_header_for s (vendor_page_for s) (vendor_sizes_for (length (concat p.ramdisks))
    (length p.dtb) z config) z) n
    ∙ ap (λ (z : ℕ). vendor_header_for s (vendor_page_for s) (vendor_sizes_for (length (concat p.ramdisks))
    (length p.dtb) (length p.fragments) z) (length p.fragments)) k

-- what follows the first sections
pub rest_for : VendorFields → VendorParts → List ℕ
rest_for s p = cond (s.version == 3) [] (laid (vendor_page (vendor_header_of s p))
    (table_for p.fragments (map length p.ramdisks) 0 ∷ p.bootconfig ∷ []))

split_at : (t : Bool) (page : ℕ) (r a b c d : List ℕ) → (padded page r ++ (padded page a ++ padded page b))
    ++ cond t [] (laid page (c ∷ d ∷ [])) ≡ padded page r ++ laid page (cond t (a ∷ b ∷ []) (a ∷ b ∷ c ∷ d ∷ []))
split_at true page r a b c d = append-nil (padded page r ++ (padded page a ++ padded page b))
    ∙ ap (λ (l : List ℕ). padded page r ++ (padded page a ++ l)) (sym (append-nil (padded page b)))
split_at false page r a b c d =
    append_assoc (padded page r) (padded page a ++ padded page b) (laid page (c ∷ d ∷ []))
    ∙ ap (λ (l : List ℕ). padded page r ++ l) (append_assoc (padded page a) (padded page b) (laid page (c ∷ d ∷ [])))

pub canon_is : (s : VendorFields) (p : VendorParts) (v : Vendor) → v ≡ vendor_header_of s p
    → first_sections v (concat p.ramdisks) p.dtb ++ rest_for s p ≡ vendor_canon s p
unfolding vendor_canon rest_for
canon_is s p v e =
    let h = vendor_header_of s p in
    ap (λ (u : Vendor). first_sections u (concat p.ramdisks) p.dtb
    ++ cond (s.version == 3) [] (laid (vendor_page h) (table_for p.fragments (map length p.ramdisks) 0
    ∷ p.bootconfig ∷ []))) e
    ∙ split_at (s.version == 3) (vendor_page h) (vendor_record h) (concat p.ramdisks) p.dtb
    (table_for p.fragments (map length p.ramdisks) 0) p.bootconfig

-- version 3 has nothing after them, version 4 the table and the bootconfig
pub rest_3 : (s : VendorFields) (p : VendorParts) → s.version ≡ 3 → rest_for s p ≡ []
unfolding rest_for
rest_3 s p e = rw e refl

pub rest_4 : (s : VendorFields) (p : VendorParts) → (s.version ≡ 3 → ⊥)
    → rest_for s p ≡ laid (vendor_page (vendor_header_of s p)) (table_for p.fragments (map length p.ramdisks) 0
    ∷ p.bootconfig ∷ [])
unfolding rest_for
rest_4 s p e = ap (λ (t : Bool).
    cond t [] (laid (vendor_page (vendor_header_of s p)) (table_for p.fragments (map length p.ramdisks) 0
    ∷ p.bootconfig ∷ []))) (ne_eqb s.version 3 e)

-- ---- sizes

pub page_is : (s : VendorFields) (page : PageSize) (sizes : List ℕ) (count : ℕ)
    → vendor_page (vendor_header_for s page sizes count) ≡ page_bytes page
page_is s page sizes count = elim (cases_Bool (s.version == 3)) [ inl e ↦ rw e refl | inr e ↦ rw e refl ]

-- sizes that all keep add up to the same
pub total_same : {S : Type 0} (f : S → ℕ) (ps ps0 : List S) → map f ps ≡ map f ps0 → total f ps ≡ total f ps0
total_same f ps ps0 e = sym (sum-map f ps) ∙ ap sum e ∙ sum-map f ps0

-- the first sections take no more than the image
pub first_fits : (s : VendorFields) (page : PageSize) (a b c d count : ℕ) → page ≡ vendor_page_for s
    → first_size (vendor_header_for s page (a ∷ b ∷ c ∷ d ∷ []) count) a b ≤ vendor_image_size s (a ∷ b ∷ c ∷ d ∷ [])
first_fits s page a b c d count e =
    let p = page_bytes (vendor_page_for s) in
    let f : ℕ → ℕ = λ n. pages n p * p in
    let h1 = sum_by-cons f a (b ∷ []) in
    let h2 = sum_by-cons f b [] in
    let k1 = sum_by-cons f a (b ∷ c ∷ d ∷ []) in
    let k2 = sum_by-cons f b (c ∷ d ∷ []) in
    rw e (elim (cases_Bool (s.version == 3)) [
      | inl t ↦ rw t (omega (arith, h1, h2))
      | inr t ↦ rw t
          (omega (arith, k1, k2))
    ])

-- and the table is after them
pub first_place : (s : VendorFields) (page : PageSize) (a b c d count : ℕ) → page ≡ vendor_page_for s
    → (s.version ≡ 3 → ⊥) → first_size (vendor_header_for s page (a ∷ b ∷ c ∷ d ∷ []) count) a b ≡ table_place s (a
    ∷ b ∷ c ∷ d ∷ [])
first_place s page a b c d count e four =
    let p = page_bytes (vendor_page_for s) in
    let f : ℕ → ℕ = λ n. pages n p * p in
    let h1 = sum_by-cons f a (b ∷ []) in
    let h2 = sum_by-cons f b [] in
    rw (e, ne_eqb s.version 3 four) (omega (arith, h1, h2))
