-- A device that a stop left mendable is mended by flashing on.
use Rattle.std.proofs.Common.{◌≡◌, ℕ, zero, suc, ◌+◌, ◌-◌, ◌*◌, ◌%◌, ◌≤◌, ◌<◌, ◌⊎◌, List, [], ◌∷◌, ◌++◌, length, get_or}
use Rattle.std.proofs.Common.{drop, replicate, Option, Some, None, refl, sym, ap, ◌∙◌, arith, inl, inr, nat_lt}
use Rattle.std.proofs.Common.{ltb-true, ltb-false}
use Rattle.std.specs.Prelude.{unwrap_or}
use Rattle.std.proofs.lemmas.Bool.{cases_Bool}
use Rattle.std.proofs.Math.Nat.{mul-le-mul_right}
use Rattle.std.proofs.Math.ListN.{get_or-append}
use Rattle.std.proofs.lemmas.List.{get_or-append_right, length-replicate, ext_get_or}
use Rattle.abt_sparse.specs.Block.{Block, Skip, IsBlockSize, AreBlocks, cells, over}
use Rattle.abt_sparse.specs.Runs.{framed}
use Rattle.abt_sparse.specs.Mending.{Mendable}
use Rattle.abt_sparse.proofs.AreAll.{AreBlocks-parts}
use Rattle.abt_sparse.proofs.Lay.{nones, length-over, get_or-over, length-cells, cells-append, cells-skips}
use Rattle.abt_sparse.proofs.Lay.{cells-framed}
use Rattle.abt_sparse.proofs.Bytewise.{none_there}

-- ---- cells after blocks that are skipped

behind_none : (n i : ℕ) (cs : List (Option ℕ)) → i < n → get_or (nones n ++ cs) i None ≡ None
behind_none n i cs lt = get_or-append (nones n) cs None i (omega (arith, lt, length-replicate {A = Option ℕ} n None))
    ∙ none_there n i

behind_some : (n i : ℕ) (cs : List (Option ℕ)) → n ≤ i → get_or (nones n ++ cs) i None ≡ get_or cs (i - n) None
behind_some n i cs le = get_or-append_right (nones n) cs n i None (length-replicate n None) le

-- the cells of a list, and those of what is left of it
cells_left : (b : ℕ) (l : List Block) (n i : ℕ) → b % 4 ≡ 0 → AreBlocks b l → n * b ≤ i
    → get_or (cells b (drop n l)) (i - n * b) None ≡ get_or (cells b l) i None
cells_left b l zero i four h le = ap (λ (k : ℕ). get_or (cells b l) k None) (let z : i - 0 * b ≡ i = omega arith in z)
cells_left b [] (suc n) i four h le = refl
cells_left b (x ∷ l) (suc n) i four h le =
    let here : length (cells b (x ∷ [])) ≡ 1 * b = length-cells b (x ∷ []) four (h.0, tt) in
    let sum : suc n * b ≡ b + n * b = omega arith in
    let parts : cells b (x ∷ l) ≡ cells b (x ∷ []) ++ cells b l = cells-append b (x ∷ []) l in
    let one : 1 * b ≡ b = omega arith in
    ap (λ (k : ℕ). get_or (cells b (drop n l)) k None) (let z : i - suc n * b ≡ (i - b) - n * b = omega
    (arith, sum) in z)
    ∙ cells_left b l n (i - b) four h.1 (omega (arith, le, sum))
    ∙ sym (ap (λ (cs : List (Option ℕ)). get_or cs i None) parts
    ∙ get_or-append_right (cells b (x ∷ [])) (cells b l) b i None (here ∙ one) (omega (arith, le, sum)))

rest_cells : (b : ℕ) (l : List Block) (n : ℕ) → cells b (replicate n Skip ++ drop n l) ≡ nones (n * b)
    ++ cells b (drop n l)
rest_cells b l n = cells-append b (replicate n Skip) (drop n l)
    ∙ ap (λ (cs : List (Option ℕ)). cs ++ cells b (drop n l)) (cells-skips b n)

-- a cell over a byte that is as it was where the cell says nothing
same_under : (c : Option ℕ) (x y : ℕ) → (c ≡ None → x ≡ y) → unwrap_or c x ≡ unwrap_or c y
same_under None x y h = h refl
same_under (Some z) x y h = refl

-- ---- flashing on

mended_at : (b : ℕ) (l : List Block) (p q : List ℕ) (first from i : ℕ) → IsBlockSize b → AreBlocks b l
    → Mendable b l p q first → from ≤ first → i < length p
    → get_or (over q (cells b (replicate from Skip ++ drop from l))) i 0 ≡ get_or (over p (cells b l)) i 0
mended_at b l p q first from i good h m le lt =
    let cs = cells b (replicate from Skip ++ drop from l) in
    let is : get_or (over q cs) i 0 ≡ unwrap_or (get_or cs i None) (get_or q i 0) =
    get_or-over q cs i (omega (arith, lt, m.long)) in
    let was : get_or (over p (cells b l)) i 0 ≡ unwrap_or (get_or (cells b l) i None) (get_or p i 0) =
    get_or-over p (cells b l) i lt in
    let mono : from * b ≤ first * b = mul-le-mul_right b le in
    elim (cases_Bool (nat_lt i (from * b))) [
      | inl t ↦
          let near : i < from * b = ltb-true _ _ t in
          let none : get_or cs i None ≡ None = ap (λ (ds : List (Option ℕ)). get_or ds i None) (rest_cells b l from)
          ∙ behind_none (from * b) i (cells b (drop from l)) near in
          is ∙ ap (λ (c : Option ℕ). unwrap_or c (get_or q i 0)) none ∙ m.before i lt (omega (arith, near, mono))
      | inr t ↦
          let far : from * b ≤ i = ltb-false _ _ t in
          let same : get_or cs i None ≡ get_or (cells b l) i None =
          ap (λ (ds : List (Option ℕ)). get_or ds i None) (rest_cells b l from)
          ∙ behind_some (from * b) i (cells b (drop from l)) far ∙ cells_left b l from i good.1 h far in
          is ∙ ap (λ (c : Option ℕ). unwrap_or c (get_or q i 0)) same
          ∙ same_under (get_or (cells b l) i None) (get_or q i 0) (get_or p i 0) (m.outside i lt) ∙ sym was
    ]

pub mended : (b : ℕ) (l : List Block) (p q : List ℕ) (first from : ℕ) → IsBlockSize b → AreBlocks b l
    → Mendable b l p q first → from ≤ first
    → over q (cells b (replicate from Skip ++ drop from l)) ≡ over p (cells b l)
mended b l p q first from good h m le =
    let cs = cells b (replicate from Skip ++ drop from l) in
    let n = length-over q cs in
    ext_get_or 0 (over q cs) (over p (cells b l)) (n ∙ m.long ∙ sym (length-over p (cells b l)))
    (λ i lt. mended_at b l p q first from i good h m le (omega (arith, lt, n, m.long)))

pub mendable_first : (b : ℕ) (l : List Block) (p : List ℕ) → Mendable b l p p 0
mendable_first b l p = record { long = refl; outside = λ i lt e. refl; before = λ i lt e. absurd (omega (arith, e)) }

pub mendable_touched : (b : ℕ) (l : List Block) (p q r : List ℕ) (first : ℕ) → Mendable b l p q first
    → length r ≡ length q
    → ((i : ℕ) → (i < first * b) ⊎ (get_or (cells b l) i None ≡ None) → get_or r i 0 ≡ get_or q i 0)
    → Mendable b l p r first
mendable_touched b l p q r first m n same = record {
  long = n ∙ m.long;
  outside = λ i lt e. same i (inr e) ∙ m.outside i lt e;
  before = λ i lt e. same i (inl e) ∙ m.before i lt e;
}

-- ---- a piece more

-- the cells of a piece are those of the image or none
piece_cells : (b : ℕ) (front s rest : List Block) (after i : ℕ) → b % 4 ≡ 0 → AreBlocks b (front ++ (s ++ rest))
    → ((get_or (cells b (framed (length front) s after)) i None ≡ get_or (cells b (front ++ (s ++ rest))) i None)
    × (length front * b ≤ i))
    ⊎ ((get_or (cells b (framed (length front) s after)) i None ≡ None)
    × ((i < length front * b) ⊎ ((length front + length s) * b ≤ i)))
piece_cells b front s rest after i four h =
    let f = length front * b in
    let n = length s * b in
    let parts = AreBlocks-parts b front (s ++ rest) h in
    let more = AreBlocks-parts b s rest parts.1 in
    let long_f : length (cells b front) ≡ f = length-cells b front four parts.0 in
    let long_s : length (cells b s) ≡ n = length-cells b s four more.0 in
    let framed_is : cells b (framed (length front) s after) ≡ nones f ++ (cells b s ++ nones (after * b)) =
    cells-framed b (length front) s after in
    let whole_is : cells b (front ++ (s ++ rest)) ≡ cells b front ++ (cells b s ++ cells b rest) =
    cells-append b front (s ++ rest) ∙ ap (λ (cs : List (Option ℕ)). cells b front ++ cs) (cells-append b s rest) in
    let sum : (length front + length s) * b ≡ f + n = omega arith in
    elim (cases_Bool (nat_lt i f)) [
      | inl t ↦ let near : i < f = ltb-true _ _ t in inr (
        ap (λ (ds : List (Option ℕ)). get_or ds i None) framed_is
            ∙ behind_none f i (cells b s ++ nones (after * b)) near,
        inl near,
      )
      | inr t ↦
          let far : f ≤ i = ltb-false _ _ t in
          let inside : get_or (cells b (framed (length front) s after)) i None ≡ get_or (cells b s
          ++ nones (after * b)) (i - f) None = ap (λ (ds : List (Option ℕ)). get_or ds i None) framed_is
          ∙ behind_some f i (cells b s ++ nones (after * b)) far in
          let within : get_or (cells b (front ++ (s ++ rest))) i None ≡ get_or (cells b s ++ cells b rest)
          (i - f) None = ap (λ (ds : List (Option ℕ)). get_or ds i None) whole_is
          ∙ get_or-append_right (cells b front) (cells b s ++ cells b rest) f i None long_f far in
          elim (cases_Bool (nat_lt (i - f) n)) [
            | inl u ↦
                let lt : i - f < length (cells b s) = omega (arith, ltb-true _ _ u, long_s) in
                inl (
                  inside ∙ get_or-append (cells b s) (nones (after * b)) None (i - f) lt
                      ∙ sym (within ∙ get_or-append (cells b s) (cells b rest) None (i - f) lt),
                  far,
                )
            | inr u ↦
                let le : n ≤ i - f = ltb-false _ _ u in
                inr (
                  inside ∙ get_or-append_right (cells b s) (nones (after * b)) n (i - f) None long_s le
                      ∙ none_there (after * b) (i - f - n),
                  inr (omega (arith, sum, le, far)),
                )
          ]
    ]

pub mendable_moved : (b : ℕ) (front s rest : List Block) (after : ℕ) (p q : List ℕ) → IsBlockSize b
    → AreBlocks b (front ++ (s ++ rest)) → Mendable b (front ++ (s ++ rest)) p q (length front)
    → Mendable b (front ++ (s ++ rest)) p (over q (cells b (framed (length front) s after))) (length front + length s)
mendable_moved b front s rest after p q good h m =
    record {
      long = length-over q (cells b (framed (length front) s after)) ∙ m.long;
      outside = outside;
      before = before;
    } where
      laid_at : (i : ℕ) → i < length p → get_or (over q (cells b (framed (length front) s after))) i 0 ≡ unwrap_or
          (get_or (cells b (framed (length front) s after)) i None) (get_or q i 0)
      laid_at i lt = get_or-over q (cells b (framed (length front) s after)) i (omega (arith, lt, m.long))

      outside : (i : ℕ) → i < length p → get_or (cells b (front ++ (s ++ rest))) i None ≡ None
          → get_or (over q (cells b (framed (length front) s after))) i 0 ≡ get_or p i 0
      outside i lt e = elim (piece_cells b front s rest after i good.1 h) [
        | inl t ↦ laid_at i lt ∙ ap (λ (c : Option ℕ). unwrap_or c (get_or q i 0)) (t.0 ∙ e) ∙ m.outside i lt e
        | inr t ↦ laid_at i lt ∙ ap (λ (c : Option ℕ). unwrap_or c (get_or q i 0)) t.0 ∙ m.outside i lt e
      ]

      before : (i : ℕ) → i < length p → i < (length front + length s) * b
          → get_or (over q (cells b (framed (length front) s after))) i 0 ≡ get_or
          (over p (cells b (front ++ (s ++ rest)))) i 0
      before i lt e = elim (piece_cells b front s rest after i good.1 h) [
        | inl t ↦
            laid_at i lt
            ∙ ap (λ (c : Option ℕ). unwrap_or c (get_or q i 0)) t.0
            ∙ same_under (get_or (cells b (front ++ (s ++ rest))) i None) (get_or q i 0) (get_or p i 0) (m.outside i lt)
            ∙ sym (get_or-over p (cells b (front ++ (s ++ rest))) i lt)
        | inr t ↦ elim t.1 [
          | inl near ↦ laid_at i lt ∙ ap (λ (c : Option ℕ). unwrap_or c (get_or q i 0)) t.0 ∙ m.before i lt near
          | inr far ↦ absurd (omega (arith, far, e))
        ]
      ]
