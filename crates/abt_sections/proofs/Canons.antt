-- The image of a header that was made for fields and sizes is the canonical one.
use Rattle.std.proofs.Common.{◌≡◌, ℕ, Bool, zero, suc, ◌≤◌, ◌⊎◌, inl, inr, List, ◌<◌, ◌+◌, ◌++◌, length, take, map}
use Rattle.std.proofs.Common.{replicate, ◌-◌, refl, sym, ap, ◌∙◌, arith}
use Rattle.std.proofs.lemmas.List.{take_at}
use Rattle.abt_headers.specs.declared.page.PageSize.{PageSize}
use Rattle.abt_headers.specs.declared.boot.BootHeader.{BootHeader}
use Rattle.abt_headers.specs.Page.{page_bytes}
use Rattle.abt_headers.specs.declared.page.PageSize.TheVariants.{Of2048, Of4096, Of8192, Of16384, Of32768, Of65536}
use Rattle.abt_headers.specs.declared.page.PageSize.TheVariants.{Of131072}
use Rattle.abt_io.specs.Moment.{put_at}
use Rattle.abt_headers.specs.Boot.{boot_page, boot_record, boot_size}
use Rattle.abt_sections.specs.Fields.{BootFields, filled}
use Rattle.abt_sections.specs.Layout.{padded, laid, laid_size}
use Rattle.abt_sections.proofs.Placing.{laid_over, one_page}
use Rattle.abt_sections.specs.BootCanon.{boot_header_with, boot_page_for, id_for, boot_image, boot_image_with}
use Rattle.abt_sections.specs.BootCanon.{image_size, boot_record_size, boot_image_size}

pub canon_is : (is_ended : Bool) (s : BootFields) (page : PageSize) (sizes id : List ℕ) (h : BootHeader)
    (parts parts' : List (List ℕ)) → h ≡ boot_header_with is_ended s page sizes id → page ≡ boot_page_for s → sizes
    ≡ filled 5 (map length parts) → id ≡ id_for s.version parts → parts' ≡ parts → boot_image h parts'
    ≡ boot_image_with is_ended s parts
unfolding boot_image_with
canon_is is_ended s page sizes id h parts parts' a b c d e =
    ap (λ (g : BootHeader). boot_image g parts') (a ∙ ap (λ (p : PageSize). boot_header_with is_ended s p sizes id) b
    ∙ ap (λ (z : List ℕ). boot_header_with is_ended s (boot_page_for s) z id) c
    ∙ ap (λ (i : List ℕ). boot_header_with is_ended s (boot_page_for s) (filled 5 (map length parts)) i) d)
    ∙ ap (λ (l : List (List ℕ)). boot_image (boot_header_with is_ended s (boot_page_for s)
    (filled 5 (map length parts)) (id_for s.version parts)) l) e

pub five : (v : ℕ) → v ≤ 4 → (v ≡ 0) ⊎ ((v ≡ 1) ⊎ ((v ≡ 2) ⊎ ((v ≡ 3) ⊎ (v ≡ 4))))
five zero h = inl refl
five (suc zero) h = inr (inl refl)
five (suc (suc zero)) h = inr (inr (inl refl))
five (suc (suc (suc zero))) h = inr (inr (inr (inl refl)))
five (suc (suc (suc (suc zero)))) h = inr (inr (inr (inr refl)))
five (suc (suc (suc (suc (suc v))))) h = absurd (omega arith)

pub header_page : (is_ended : Bool) (s : BootFields) (sizes id : List ℕ) → s.version ≤ 4
    → boot_page (boot_header_with is_ended s (boot_page_for s) sizes id) ≡ page_bytes (boot_page_for s)
unfolding boot_header_with
header_page is_ended s sizes id h = elim (five s.version h) [
  | inl e ↦ rw e refl
  | inr e ↦ elim e [
    | inl e ↦ rw e refl
    | inr e ↦ elim e [
      | inl e ↦ rw e refl
      | inr e ↦ elim e
          [ inl e ↦ rw e refl | inr e ↦ rw e refl ]
    ]
  ]
]

pub header_size : (is_ended : Bool) (s : BootFields) (page : PageSize) (sizes id : List ℕ) → s.version ≤ 4
    → boot_size (boot_header_with is_ended s page sizes id) ≡ boot_record_size s.version
unfolding boot_header_with
header_size is_ended s page sizes id h = elim (five s.version h) [
  | inl e ↦ rw e refl
  | inr e ↦ elim e [
    | inl e ↦ rw e refl
    | inr e ↦ elim e
        [ inl e ↦ rw e refl | inr e ↦ elim e [ inl e ↦ rw e refl | inr e ↦ rw e refl ] ]
  ]
]

pub size_is : (is_ended : Bool) (s : BootFields) (page : PageSize) (sizes zs id : List ℕ) (h : BootHeader) (n : ℕ)
    → s.version ≤ 4 → h ≡ boot_header_with is_ended s page sizes id → page ≡ boot_page_for s → sizes ≡ filled 5 zs → n
    ≡ length zs → image_size (boot_page h) (boot_size h) (take n sizes) ≡ boot_image_size s zs
size_is is_ended s page sizes zs id h n low a b c d =
    let whole : h ≡ boot_header_with is_ended s (boot_page_for s) sizes id = a
    ∙ ap (λ (p : PageSize). boot_header_with is_ended s p sizes id) b in
    let p : boot_page h ≡ page_bytes (boot_page_for s) = ap boot_page whole ∙ header_page is_ended s sizes id low in
    let z : boot_size h ≡ boot_record_size s.version = ap boot_size whole
    ∙ header_size is_ended s (boot_page_for s) sizes id low in
    let t : take n sizes ≡ zs = ap (take n) c ∙ take_at zs (replicate (5 - length zs) 0) n (sym d) in
    ap (λ (q : ℕ). image_size q (boot_size h) (take n sizes)) p
    ∙ ap (λ (q : ℕ). image_size (page_bytes (boot_page_for s)) q (take n sizes)) z
    ∙ ap (λ (l : List ℕ). image_size (page_bytes (boot_page_for s)) (boot_record_size s.version) l) t

-- ---- a header that is written over zeros for its page

page_long : (p : PageSize) → 2048 ≤ page_bytes p
page_long Of2048 = omega arith
page_long Of4096 = omega arith
page_long Of8192 = omega arith
page_long Of16384 = omega arith
page_long Of32768 = omega arith
page_long Of65536 = omega arith
page_long Of131072 = omega arith

record_some : (v : ℕ) → v ≤ 4 → 0 < boot_record_size v
record_some v h = elim (five v h) [
  | inl e ↦ rw e (omega arith)
  | inr e ↦ elim e [
    | inl e ↦ rw e (omega arith)
    | inr e ↦ elim e [
      | inl e ↦ rw e (omega arith)
      | inr e ↦ elim e
          [ inl e ↦ rw e (omega arith) | inr e ↦ rw e (omega arith) ]
    ]
  ]
]

record_short : (v : ℕ) → v ≤ 4 → boot_record_size v ≤ 2048
record_short v h = elim (five v h) [
  | inl e ↦ rw e (omega arith)
  | inr e ↦ elim e [
    | inl e ↦ rw e (omega arith)
    | inr e ↦ elim e [
      | inl e ↦ rw e (omega arith)
      | inr e ↦ elim e
          [ inl e ↦ rw e (omega arith) | inr e ↦ rw e (omega arith) ]
    ]
  ]
]

-- a page for the header, and the parts after it
pub once_size : (s : BootFields) (page : PageSize) (sizes zs : List ℕ) (n : ℕ) → s.version ≤ 4 → page
    ≡ boot_page_for s → sizes ≡ filled 5 zs → n ≡ length zs → page_bytes page
    + laid_size (page_bytes page) (take n sizes) ≡ boot_image_size s zs
once_size s page sizes zs n low b c d =
    let t : take n sizes ≡ zs = ap (take n) c ∙ take_at zs (replicate (5 - length zs) 0) n (sym d) in
    let q = page_bytes page in
    ap (λ (l : List ℕ). q + laid_size q l) t
    ∙ ap (λ (k : ℕ). k + laid_size q zs) (sym (one_page (boot_record_size s.version) q (record_some s.version low)
    (omega (arith, record_short s.version low, page_long page))))
    ∙ ap (λ (p : PageSize). image_size (page_bytes p) (boot_record_size s.version) zs) b

pub once_written : (is_ended : Bool) (s : BootFields) (page : PageSize) (sizes id : List ℕ) (h : BootHeader)
    (parts : List (List ℕ)) (old mid new : List ℕ) (at : ℕ) → s.version ≤ 4 → h
    ≡ boot_header_with is_ended s page sizes id → page ≡ boot_page_for s → sizes ≡ filled 5 (map length parts) → id
    ≡ id_for s.version parts → length (boot_record h) ≡ boot_size h → at ≡ length old
    → mid ≡ (old ++ replicate (page_bytes page) 0) ++ laid (page_bytes page) parts → new
    ≡ put_at mid at (boot_record h) → new ≡ old ++ boot_image_with is_ended s parts
once_written is_ended s page sizes id h parts old mid new at low a b c d long place e put =
    let hs : boot_size h ≡ boot_record_size s.version = ap boot_size a ∙ header_size is_ended s page sizes id low in
    let q = page_bytes page in
    let pages : q ≡ boot_page h = ap page_bytes b ∙ sym (ap boot_page
    (a ∙ ap (λ (p : PageSize). boot_header_with is_ended s p sizes id) b) ∙ header_page is_ended s sizes id low)
    in
    laid_over old mid new (boot_record h) (laid q parts) q e (put
    ∙ ap (λ (k : ℕ). put_at mid k (boot_record h)) place) (omega (arith, long, hs, record_some s.version low))
    (omega (arith, long, hs, record_short s.version low, page_long page))
    ∙ ap (λ (p : ℕ). old ++ (padded p (boot_record h) ++ laid p parts)) pages
    ∙ ap (λ (l : List ℕ). old ++ l) (canon_is is_ended s page sizes id h parts parts a b c d refl)
