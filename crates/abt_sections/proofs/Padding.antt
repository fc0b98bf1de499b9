-- Parts that are padded, and the bytes that they are laid out as.
use Rattle.std.proofs.Common.{◌≡◌, ℕ, ◌+◌, ◌*◌, ◌≤◌, ◌<◌, true, ◌==◌, List, [], ◌∷◌, ◌++◌, length, take, drop}
use Rattle.std.proofs.Common.{replicate, refl, sym, ap, ◌∙◌, append_assoc, arith, drop-drop, take-append-drop, None}
use Rattle.std.proofs.Math.Nat.{mul-add}
use Rattle.std.proofs.lemmas.Bool.{and_parts, and_from, eqb-true, eq-eqb}
use Rattle.std.proofs.lemmas.List.{take_at, drop_at, length-replicate}
use Rattle.abt_headers.specs.declared.sections.Section.{Section}
use Rattle.abt_headers.specs.declared.sections.SectionPlace.{SectionPlace}
use Rattle.abt_headers.specs.Page.{pages}
use Rattle.abt_headers.specs.Places.{places_from}
use Rattle.abt_headers.proofs.Places.{enough_pages}
use Rattle.abt_sections.specs.Layout.{padding, padded, laid, laid_out, part_of, parts_of, PartsPlaced, Sized}
use Rattle.abt_sections.specs.Check.{all_zero, zeros_there, padded_places, padding_holds}
use Rattle.abt_sections.specs.Header.{Header, HeaderFits, record_of, size_of, page_of, sections_of, places_of}
use Rattle.abt_sections.specs.Open.{beyond}
use Rattle.abt_sections.proofs.Digests.{there_length}
use Rattle.abt_sections.proofs.FieldTexts.{all_zero_is, zeros_are}
use Rattle.abt_sections.proofs.Laying.{long, padded_length, some_page}
use Rattle.abt_sections.proofs.Tables.{none_at, ends_there}

-- ---- zeros that are there

zeros_stand : (x : List ℕ) (at n : ℕ) → zeros_there x at n ≡ true → take n (drop at x) ≡ replicate n 0
zeros_stand x at n e =
    let y = take n (drop at x) in
    let p = and_parts (length y == n) (all_zero y) e in
    all_zero_is y p.1 ∙ ap (λ (k : ℕ). replicate k 0) (eqb-true (length y) n p.0)

stand_zeros : (x rest : List ℕ) (at n : ℕ) → drop at x ≡ replicate n 0 ++ rest → zeros_there x at n ≡ true
stand_zeros x rest at n e =
    let y = take n (drop at x) in
    let is : y ≡ replicate n 0 = ap (take n) e ∙ take_at (replicate n 0) rest n (length-replicate n 0) in
    and_from _ _ (eq-eqb (length y) n (ap length is ∙ length-replicate n 0)) (ap all_zero is ∙ zeros_are n)

-- ---- from places that are padded to the bytes

-- n bytes at a place, and zeros up to the page boundary
padded_back : (p at n : ℕ) (x : List ℕ) → 0 < p → (0 < n → at + n ≤ length x)
    → zeros_there x (at + n) (padding n p) ≡ true → drop at x ≡ padded p (take n (drop at x))
    ++ drop (at + pages n p * p) x
padded_back p at n x some there e =
    let q = take n (drop at x) in
    let free = padding n p in
    let same : length q ≡ n = there_length x at n there in
    let end : at + n + free ≡ at + pages n p * p = omega (arith, enough_pages n p some) in
    let zeros = zeros_stand x (at + n) free e in
    let behind : drop (at + n) x ≡ replicate free 0 ++ drop (at + pages n p * p) x =
    sym (take-append-drop free (drop (at + n) x))
    ∙ ap (λ (l : List ℕ). l ++ drop free (drop (at + n) x)) zeros
    ∙ ap (λ (l : List ℕ). replicate free 0 ++ l) (drop-drop free (at + n) x ∙ ap (λ (k : ℕ). drop k x) end) in
    sym (take-append-drop n (drop at x))
    ∙ ap (λ (l : List ℕ). q ++ l) (drop-drop n at x ∙ behind)
    ∙ sym (append_assoc q (replicate free 0) (drop (at + pages n p * p) x))
    ∙ ap (λ (k : ℕ). (q ++ replicate (padding k p) 0) ++ drop (at + pages n p * p) x) (sym same)

pub laid_back : (p : ℕ) → 0 < p → (k : ℕ) (ss : List (Section × ℕ)) (x : List ℕ)
    → beyond (places_from p k ss) (length x) ≡ None → padded_places x p (places_from p k ss) ≡ true
    → (rest : List ℕ) × (drop (p * k) x ≡ laid p (parts_of x (places_from p k ss)) ++ rest)
laid_back p some k [] x there e = (drop (p * k) x, refl)
laid_back p some k (s ∷ ss) x there e =
    let place : SectionPlace = record { kind = s.0; at = p * k; size = s.1 } in
    let n = none_at place (places_from p (k + pages s.1 p) ss) (length x) there in
    let z = and_parts (zeros_there x (p * k + s.1) (padding s.1 p))
    (padded_places x p (places_from p (k + pages s.1 p) ss)) e in
    let q = part_of x place in
    let here = padded_back p (p * k) s.1 x some (ends_there place (length x) n.0) z.0 in
    let r = laid_back p some (k + pages s.1 p) ss x n.1 z.1 in
    let next : p * k + pages s.1 p * p ≡ p * (k + pages s.1 p) = rw (mul-add p k (pages s.1 p)) (omega arith) in
    let parts = parts_of x (places_from p (k + pages s.1 p) ss) in (
      r.0,
      here ∙ ap (λ (l : List ℕ). padded p q ++ l) (ap (λ (j : ℕ). drop j x) next ∙ r.1)
          ∙ sym (append_assoc (padded p q) (laid p parts) r.0),
    )

-- an image whose sections are there and padded is its record and sections, laid out
pub laid_out_back : (x : List ℕ) (h : Header) → HeaderFits h → size_of h ≤ length x → take (size_of h) x ≡ record_of h
    → beyond (places_of h) (length x) ≡ None → padding_holds x h ≡ true
    → (rest : List ℕ) × (x ≡ laid_out (page_of h) (record_of h) (parts_of x (places_of h)) ++ rest)
laid_out_back x h fits size begins there e =
    let p = page_of h in
    let n = size_of h in
    let z = and_parts (zeros_there x n (padding n p)) (padded_places x p (places_of h)) e in
    let none : 0 + n ≡ n = omega arith in
    let free : zeros_there x (0 + n) (padding n p) ≡ true = ap (λ (j : ℕ). zeros_there x j (padding n p)) none ∙ z.0 in
    let last : 0 + pages n p * p ≡ pages n p * p = omega arith in
    let first : x ≡ padded p (take n x) ++ drop (pages n p * p) x =
    padded_back p 0 n x (some_page h) (λ _. omega arith) free
    ∙ ap (λ (j : ℕ). padded p (take n x) ++ drop j x) last in
    let r = laid_back p (some_page h) (pages n p) (sections_of h) x there z.1 in
    let same : pages n p * p ≡ p * pages n p = omega arith in
    let parts = parts_of x (places_of h) in (
      r.0,
      first
          ∙ ap (λ (l : List ℕ). padded p l ++ drop (pages n p * p) x) begins
          ∙ ap (λ (l : List ℕ). padded p (record_of h) ++ l) (ap (λ (j : ℕ). drop j x) same ∙ r.1)
          ∙ sym (append_assoc (padded p (record_of h)) (laid p parts) r.0),
    )

-- ---- and back

-- what is written is padded
laid_padded : (p : ℕ) → 0 < p → (k : ℕ) (ss : List (Section × ℕ)) (parts : List (List ℕ)) (x rest : List ℕ)
    → drop (p * k) x ≡ laid p parts ++ rest → Sized ss parts → padded_places x p (places_from p k ss) ≡ true
laid_padded p some k [] [] x rest e s = refl
laid_padded p some k [] (q ∷ qs) x rest e s = absurd s
laid_padded p some k (t ∷ ss) [] x rest e s = absurd s
laid_padded p some k (t ∷ ss) (q ∷ qs) x rest e s =
    let tail = laid p qs ++ rest in
    let free = padding (length q) p in
    let same : length q ≡ t.1 = s.0 in
    let at : drop (p * k) x ≡ padded p q ++ tail = e ∙ append_assoc (padded p q) (laid p qs) rest in
    let behind : drop (p * k + t.1) x ≡ replicate (padding t.1 p) 0 ++ tail =
    sym (drop-drop t.1 (p * k) x) ∙ ap (drop t.1) (at ∙ append_assoc q (replicate free 0) tail)
    ∙ drop_at q (replicate free 0 ++ tail) t.1 same ∙ ap (λ (n : ℕ). replicate (padding n p) 0 ++ tail) same in
    let long : length (padded p q) ≡ pages t.1 p * p = padded_length p q some ∙ ap (λ (n : ℕ). pages n p * p) same in
    let end : p * k + pages t.1 p * p ≡ p * (k + pages t.1 p) = rw (mul-add p k (pages t.1 p)) (omega arith) in
    let next : drop (p * (k + pages t.1 p)) x ≡ tail =
    ap (λ (j : ℕ). drop j x) (sym end) ∙ sym (drop-drop (pages t.1 p * p) (p * k) x) ∙ ap (drop (pages t.1 p * p)) at
    ∙ drop_at (padded p q) tail (pages t.1 p * p) long in
    and_from _ _ (stand_zeros x tail (p * k + t.1) (padding t.1 p) behind)
    (laid_padded p some (k + pages t.1 p) ss qs x rest next s.1)

pub laid_out_padded : (x : List ℕ) (h : Header) (parts : List (List ℕ)) (rest : List ℕ) → HeaderFits h
    → Sized (sections_of h) parts → x ≡ laid_out (page_of h) (record_of h) parts ++ rest → padding_holds x h ≡ true
laid_out_padded x h parts rest fits s e =
    let p = page_of h in
    let r = record_of h in
    let n = size_of h in
    let tail = laid p parts ++ rest in
    let same : length r ≡ n = long h fits in
    let whole : x ≡ padded p r ++ tail = e ∙ append_assoc (padded p r) (laid p parts) rest in
    let behind : drop n x ≡ replicate (padding n p) 0 ++ tail =
    ap (drop n) (whole ∙ append_assoc r (replicate (padding (length r) p) 0) tail)
    ∙ drop_at r (replicate (padding (length r) p) 0 ++ tail) n same ∙ ap (λ (k : ℕ). replicate (padding k p) 0
    ++ tail) same in
    let first : length (padded p r) ≡ p * pages n p = padded_length p r (some_page h) ∙ rw same (omega arith) in
    let next : drop (p * pages n p) x ≡ tail = ap (drop (p * pages n p)) whole
    ∙ drop_at (padded p r) tail (p * pages n p) first in
    and_from _ _ (stand_zeros x tail n (padding n p) behind)
    (laid_padded p (some_page h) (pages n p) (sections_of h) parts x rest next s)

pub placed_parts : (x : List ℕ) (ps : List SectionPlace) (parts : List (List ℕ)) → PartsPlaced x ps parts
    → parts_of x ps ≡ parts
placed_parts x [] [] h = refl
placed_parts x [] (q ∷ qs) h = absurd h
placed_parts x (p ∷ ps) [] h = absurd h
placed_parts x (p ∷ ps) (q ∷ qs) h = ap (λ (l : List ℕ). l ∷ parts_of x ps) h.1
    ∙ ap (λ (l : List (List ℕ)). q ∷ l) (placed_parts x ps qs h.2)
