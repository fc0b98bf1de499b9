-- Parts that are written one after another, and how many bytes they take.
use Rattle.std.proofs.Common.{◌≡◌, ℕ, ◌+◌, ◌-◌, ◌*◌, ◌≤◌, List, [], ◌∷◌, ◌++◌, ◌<◌, length, get_or, sum, take, drop}
use Rattle.std.proofs.Common.{refl, sym, ap, ◌∙◌, append_assoc, append-nil, arith, take-append-drop}
use Rattle.std.specs.List.{concat}
use Rattle.std.proofs.lemmas.List.Folds.{concat-append}
use Rattle.std.proofs.lemmas.List.Sums.{sum_by-append, sum_by_more}
use Rattle.abt_headers.specs.Page.{pages}
use Rattle.abt_io.proofs.Parts.{take_plus}
use Rattle.abt_sections.specs.Layout.{padded, laid, laid_size}

pub laid-append : (page : ℕ) (xs ys : List (List ℕ)) → laid page (xs ++ ys) ≡ laid page xs ++ laid page ys
laid-append page [] ys = refl
laid-append page (x ∷ xs) ys = ap (λ (l : List ℕ). padded page x ++ l) (laid-append page xs ys)
    ∙ sym (append_assoc (padded page x) (laid page xs) (laid page ys))

-- one part more
pub laid_next : (page : ℕ) (all : List (List ℕ)) (b : List ℕ) (i : ℕ) → take (i + 1) all ≡ take i all ++ (b ∷ [])
    → laid page (take i all) ++ padded page b ≡ laid page (take (i + 1) all)
laid_next page all b i next =
    ap (λ (l : List ℕ). laid page (take i all) ++ l) (sym (append-nil (padded page b)))
    ∙ sym (laid-append page (take i all) (b ∷ []))
    ∙ ap (laid page) (sym next)

-- all parts are the first ones, the next, and the rest
pub laid_at : (page : ℕ) (all : List (List ℕ)) (b : List ℕ) (i : ℕ) → take (i + 1) all ≡ take i all ++ (b ∷ [])
    → (laid page (take i all) ++ padded page b) ++ laid page (drop (i + 1) all) ≡ laid page all
laid_at page all b i next =
    ap (λ (l : List ℕ). l ++ laid page (drop (i + 1) all)) (laid_next page all b i next)
    ∙ sym (laid-append page (take (i + 1) all) (drop (i + 1) all))
    ∙ ap (laid page) (take-append-drop (i + 1) all)

-- a prefix takes no more than a longer one
pub laid_less : (page : ℕ) (sizes : List ℕ) (j n : ℕ) → j ≤ n
    → laid_size page (take j sizes) ≤ laid_size page (take n sizes)
laid_less page sizes j n h =
    let k : n ≡ j + (n - j) = omega arith in
    let f : ℕ → ℕ = λ m. pages m page * page in
    omega (
      arith,
      ap (λ (m : ℕ). laid_size page (take m sizes)) k,
      ap (laid_size page) (take_plus j (n - j) sizes),
      sum_by-append f (take j sizes) (take (n - j) (drop j sizes)),
    )

-- the same of their sizes alone
pub sum_next : (sizes : List ℕ) (i : ℕ) → i < length sizes
    → sum (take (i + 1) sizes) ≡ sum (take i sizes) + get_or sizes i 0
sum_next sizes i h = sum_by_more (λ (n : ℕ). n) sizes i 0 h

pub sum_less : (sizes : List ℕ) (j n : ℕ) → j ≤ n → sum (take j sizes) ≤ sum (take n sizes)
sum_less sizes j n h =
    let k : n ≡ j + (n - j) = omega arith in
    let f : ℕ → ℕ = λ m. m in
    omega (
      arith,
      ap (λ (m : ℕ). sum (take m sizes)) k,
      ap sum (take_plus j (n - j) sizes),
      sum_by-append f (take j sizes) (take (n - j) (drop j sizes)),
    )

-- ---- parts end to end

pub concat_next : (all : List (List ℕ)) (b : List ℕ) (i : ℕ) → take (i + 1) all ≡ take i all ++ (b ∷ [])
    → concat (take i all) ++ b ≡ concat (take (i + 1) all)
concat_next all b i next =
    ap (λ (l : List ℕ). concat (take i all) ++ l) (sym (append-nil b))
    ∙ sym (concat-append (take i all) (b ∷ []))
    ∙ ap concat (sym next)

pub concat_front : (all : List (List ℕ)) (i : ℕ) → concat (take i all) ++ concat (drop i all) ≡ concat all
concat_front all i = sym (concat-append (take i all) (drop i all)) ∙ ap concat (take-append-drop i all)

pub concat_at : (all : List (List ℕ)) (b : List ℕ) (i : ℕ) → take (i + 1) all ≡ take i all ++ (b ∷ [])
    → (concat (take i all) ++ b) ++ concat (drop (i + 1) all) ≡ concat all
concat_at all b i next =
    ap (λ (l : List ℕ). l ++ concat (drop (i + 1) all)) (concat_next all b i next)
    ∙ concat_front all (i + 1)

-- how many bytes the last two of four parts take
pub last_two : (page : ℕ) (sizes : List ℕ) → length sizes ≡ 4
    → laid_size page (drop 2 sizes) ≡ pages (get_or sizes 2 0) page * page + pages (get_or sizes 3 0) page * page
last_two page [] long = absurd (omega (arith, long))
last_two page (a ∷ []) long = absurd (omega (arith, long))
last_two page (a ∷ b ∷ []) long = absurd (omega (arith, long))
last_two page (a ∷ b ∷ c ∷ []) long = absurd (omega (arith, long))
last_two page (a ∷ b ∷ c ∷ d ∷ []) long = omega arith
last_two page (a ∷ b ∷ c ∷ d ∷ e ∷ sizes) long = absurd (omega (arith, long))
