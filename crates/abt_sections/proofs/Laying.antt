-- What the packer writes is at its places.
use Rattle.std.proofs.Common.{◌≡◌, ℕ, ◌+◌, ◌*◌, ◌<◌, List, [], ◌∷◌, ◌++◌, length, take, drop, replicate, sym, ap, ◌∙◌}
use Rattle.std.proofs.Common.{append_assoc, arith, length-append}
use Rattle.std.proofs.Math.Nat.{mul-add}
use Rattle.std.proofs.lemmas.List.{take_at, drop_at, length-replicate}
use Rattle.abt_headers.specs.declared.sections.Section.{Section}
use Rattle.abt_headers.specs.declared.page.PageSize.{PageSize}
use Rattle.abt_headers.specs.declared.page.PageSize.TheVariants.{Of2048, Of4096, Of8192, Of16384, Of32768, Of65536}
use Rattle.abt_headers.specs.declared.page.PageSize.TheVariants.{Of131072}
use Rattle.abt_headers.specs.declared.boot.BootHeader.{BootHeader}
use Rattle.abt_headers.specs.declared.boot.BootHeader.TheVariants.{V0, V1, V2, V3, V4}
use Rattle.abt_headers.specs.Page.{page_bytes, pages}
use Rattle.abt_headers.specs.Places.{places_from}
use Rattle.abt_headers.proofs.Places.{enough_pages}
use Rattle.abt_headers.proofs.BootLaws as boot
use Rattle.abt_headers.proofs.VendorLaws as vendor
use Rattle.abt_sections.specs.Layout.{padding, padded, laid, laid_out, PartsPlaced, Sized}
use Rattle.abt_sections.specs.Header.{Header, OfBoot, OfVendor, HeaderFits, IsImage, record_of, size_of, page_of}
use Rattle.abt_sections.specs.Header.{sections_of}

pub padded_length : (p : ℕ) (x : List ℕ) → 0 < p → length (padded p x) ≡ pages (length x) p * p
padded_length p x h =
    let zeros = length-replicate {A = ℕ} (padding (length x) p) 0 in
    omega (arith, length-append x (replicate (padding (length x) p) 0), zeros, enough_pages (length x) p h)

placed : (p : ℕ) → 0 < p → (k : ℕ) (ss : List (Section × ℕ)) (parts : List (List ℕ)) (front rest x : List ℕ)
    → length front ≡ p * k → x ≡ front ++ (laid p parts ++ rest) → Sized ss parts
    → PartsPlaced x (places_from p k ss) parts
placed p h k [] [] front rest x n e s = tt
placed p h k [] (q ∷ qs) front rest x n e s = s
placed p h k (t ∷ ss) [] front rest x n e s = s
placed p h k (t ∷ ss) (q ∷ qs) front rest x n e s =
    let tail = laid p qs ++ rest in
    let zeros = replicate (padding (length q) p) 0 in
    let regroup : laid p (q ∷ qs) ++ rest ≡ padded p q ++ tail = append_assoc (padded p q) (laid p qs) rest in
    let here : x ≡ front ++ (padded p q ++ tail) = e ∙ ap (λ (l : List ℕ). front ++ l) regroup in
    let at : drop (p * k) x ≡ padded p q ++ tail = ap (drop (p * k)) here
    ∙ drop_at front (padded p q ++ tail) (p * k) n in
    let there : take t.1 (drop (p * k) x) ≡ q =
    ap (take t.1) (at ∙ append_assoc q zeros tail)
    ∙ take_at q (zeros ++ tail) t.1 s.0 in
    let more : length (front ++ padded p q) ≡ p * (k + pages t.1 p) = length-append front (padded p q)
    ∙ rw (padded_length p q h, n, s.0, mul-add p k (pages t.1 p)) (omega arith) in
    let whole = here ∙ sym (append_assoc front (padded p q) tail) in
    (s.0, there, placed p h (k + pages t.1 p) ss qs (front ++ padded p q) rest x more whole s.1)

pub page_some : (p : PageSize) → 0 < page_bytes p
page_some Of2048 = omega arith
page_some Of4096 = omega arith
page_some Of8192 = omega arith
page_some Of16384 = omega arith
page_some Of32768 = omega arith
page_some Of65536 = omega arith
page_some Of131072 = omega arith

boot_some : (h : BootHeader) → 0 < page_of (OfBoot h)
boot_some (V0 f) = page_some f.page_size
boot_some (V1 f d) = page_some f.page_size
boot_some (V2 f d t) = page_some f.page_size
boot_some (V3 f) = omega arith
boot_some (V4 f s) = omega arith

pub some_page : (h : Header) → 0 < page_of h
some_page (OfBoot h) = boot_some h
some_page (OfVendor v) = page_some v.front.page_size

pub long : (h : Header) → HeaderFits h → length (record_of h) ≡ size_of h
long (OfBoot h) fits = boot.record_length h fits
long (OfVendor v) fits = vendor.record_length v fits

pub is_image : (h : Header) (parts : List (List ℕ)) (rest : List ℕ) → HeaderFits h → Sized (sections_of h) parts
    → IsImage (laid_out (page_of h) (record_of h) parts ++ rest) h parts
is_image h parts rest fits s =
    let p = page_of h in
    let r = record_of h in
    let n = long h fits in
    let zeros = replicate (padding (length r) p) 0 in
    let tail = laid p parts ++ rest in
    let whole : laid_out p r parts ++ rest ≡ padded p r ++ tail = append_assoc (padded p r) (laid p parts) rest in
    let first : length (padded p r) ≡ p * pages (size_of h) p = padded_length p r (some_page h) ∙ rw n (omega arith) in
    record {
      fits = fits;
      begins = ap (take (size_of h)) (whole ∙ append_assoc r zeros tail) ∙ take_at r (zeros ++ tail) (size_of h) n;
      placed = placed p (some_page h) (pages (size_of h) p) (sections_of h) parts (padded p r) rest
          (laid_out p r parts ++ rest) first whole s;
    }
