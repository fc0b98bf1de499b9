-- The greedy segments are the cuts of which each goes as far as the limit allows, and no others are.
use Rattle.std.proofs.Common.{◌≡◌, ℕ, suc, ◌+◌, ◌-◌, ◌≤◌, ◌<◌, Bool, true, false, List, [], ◌∷◌, ◌++◌, length, take}
use Rattle.std.proofs.Common.{refl, sym, ap, subst, ◌∙◌, append_assoc, append-nil, arith, inl, inr, nat_le, leb-true}
use Rattle.std.proofs.Common.{le-leb, length-append}
use Rattle.std.proofs.lemmas.Bool.{cases_Bool, leb-false}
use Rattle.std.proofs.lemmas.List.{take_at, append_cancel_left}
use Rattle.abt_sparse.specs.Block.{Block}
use Rattle.abt_sparse.specs.Runs.{weight, greedy, segments}
use Rattle.abt_sparse.specs.Pieces.{IsGreatest, AreCuts}
use Rattle.abt_sparse.proofs.Greedy.{greedy-more, greedy-ends}
use Rattle.abt_sparse.proofs.Weights.{weight_back, one_fits}

abbrev fits_in : ℕ → ℕ → List Block → Bool
fits_in limit b part = nat_le (weight b part) limit

too_heavy : (limit b : ℕ) (part : List Block) → fits_in limit b part ≡ false → weight b part ≤ limit → ⊥
too_heavy limit b part e le = let t : fits_in limit b part ≡ true = le-leb _ _ le in cc

-- ---- the segments are such cuts

greedy_head : (fits : List Block → Bool) (l part : List Block) → (q : List Block) × (qs : List (List Block))
    × (greedy fits part l ≡ q ∷ qs)
greedy_head fits [] part = (part, [], refl)
greedy_head fits (x ∷ l) part = elim (cases_Bool (fits (part ++ x ∷ []))) [
  | inl e ↦ let v = greedy_head fits l (part ++ x ∷ []) in (v.0, v.1, greedy-more fits x l part e ∙ v.2)
  | inr e ↦ (part, greedy fits (x ∷ []) l, greedy-ends fits x l part e)
]

take_past : (part l : List Block) (x : Block) (e : ℕ) → take (suc (length part) + e) (part ++ x ∷ l) ≡ (part ++ x
    ∷ []) ++ take e l
take_past [] l x e = let n : suc 0 + e ≡ suc e = omega arith in rw n refl
take_past (y ∷ part) l x e = let n : suc (suc (length part)) + e ≡ suc (suc (length part) + e) = omega arith in
    rw n (ap (λ (t : List Block). y ∷ t) (take_past part l x e))

greatest_here : (limit b : ℕ) (part l : List Block) (x : Block) → fits_in limit b part ≡ true
    → fits_in limit b (part ++ x ∷ []) ≡ false → IsGreatest limit b (part ++ x ∷ l) part
greatest_here limit b part l x ok ends = (
  leb-true _ _ ok,
  λ e le w. elim (cases_Bool (nat_le e (length part))) [
    | inl t ↦ leb-true _ _ t
    | inr t ↦ absurd (past e w (leb-false _ _ t))
  ],
) where
  past : (e : ℕ) → weight b (take e (part ++ x ∷ l)) ≤ limit → length part < e → ⊥
  past e w lt =
      let n : suc (length part) + (e - suc (length part)) ≡ e = omega (arith, lt) in
      let same : take e (part ++ x ∷ l) ≡ (part ++ x ∷ []) ++ take (e - suc (length part)) l =
      ap (λ (j : ℕ). take j (part ++ x ∷ l)) (sym n) ∙ take_past part l x (e - suc (length part)) in
      too_heavy limit b (part ++ x ∷ []) ends
      (omega (arith, w, ap (weight b) same, weight_back b (take (e - suc (length part)) l) (part ++ x ∷ [])))

cut_here : (limit b : ℕ) (part l : List Block) (x : Block) (q : List Block) (qs parts : List (List Block))
    → parts ≡ q ∷ qs → IsGreatest limit b (part ++ x ∷ l) part → AreCuts limit b (x ∷ l) parts
    → AreCuts limit b (part ++ x ∷ l) (part ∷ parts)
cut_here limit b part l x q qs parts e here after = rw e (x ∷ l, refl, (λ n. let m = n in cc), here, rw e at after)

cuts_from : (limit b : ℕ) → 4 ≤ b → 64 + b ≤ limit → (l part : List Block) → fits_in limit b part ≡ true
    → AreCuts limit b (part ++ l) (greedy (fits_in limit b) part l)
cuts_from limit b four room [] part ok = (sym (append-nil part), leb-true _ _ ok)
cuts_from limit b four room (x ∷ l) part ok = elim (cases_Bool (fits_in limit b (part ++ x ∷ []))) [
  | inl e ↦ rw (greedy-more (fits_in limit b) x l part e)
      (rw append_assoc at (cuts_from limit b four room l (part ++ x ∷ []) e))
  | inr e ↦
      let v = greedy_head (fits_in limit b) l (x ∷ []) in
      rw (greedy-ends (fits_in limit b) x l part e)
      (cut_here limit b part l x v.0 v.1 (greedy (fits_in limit b) (x ∷ []) l) v.2
      (greatest_here limit b part l x ok e) (cuts_from limit b four room l (x ∷ []) (one_fits limit b x four room)))
]

pub segments_are : (limit b : ℕ) (l : List Block) → 4 ≤ b → 64 + b ≤ limit → AreCuts limit b l (segments limit b l)
segments_are limit b l four room = cuts_from limit b four room l [] (le-leb _ _ (omega (arith, four, room)))

-- ---- and no others are

some_behind : (rest : List Block) → (rest ≡ [] → ⊥) → 0 < length rest
some_behind [] ne = absurd (ne refl)
some_behind (x ∷ rest) ne = omega arith

same_front : (p q rest more : List Block) → p ++ rest ≡ q ++ more → length p ≡ length q → (p ≡ q) × (rest ≡ more)
same_front p q rest more e n =
    let here : p ≡ q = sym (take_at p rest (length q) n) ∙ ap (λ (t : List Block). take (length q) t) e
    ∙ take_at q more (length q) refl in
    (here, append_cancel_left p rest more (e ∙ ap (λ (t : List Block). t ++ more) (sym here)))

-- the front of blocks that a part is
front_of : (l part rest : List Block) → part ++ rest ≡ l → (take (length part) l ≡ part)
    × (length l ≡ length part + length rest)
front_of l part rest e = (
  ap (λ (t : List Block). take (length part) t) (sym e) ∙ take_at part rest (length part) refl,
  ap length (sym e)
      ∙ length-append part rest,
)

reaches : (limit b : ℕ) (l p q rest more : List Block) → p ++ rest ≡ l → q ++ more ≡ l → weight b p ≤ limit
    → IsGreatest limit b l q → length p ≤ length q
reaches limit b l p q rest more e f w g =
    let a = front_of l p rest e in
    g.1 (length p) (omega (arith, a.1)) (omega (arith, w, ap (weight b) a.0))

pub only_cuts : (limit b : ℕ) (l : List Block) (ps qs : List (List Block)) → AreCuts limit b l ps
    → AreCuts limit b l qs → ps ≡ qs
only_cuts limit b l [] qs h k = absurd h
only_cuts limit b l (p ∷ []) [] h k = absurd k
only_cuts limit b l (p ∷ []) (q ∷ []) h k = ap (λ (t : List Block). t ∷ []) (h.0 ∙ sym k.0)
only_cuts limit b l (p ∷ []) (q ∷ r ∷ qs) h k =
    let le = reaches limit b l p q [] k.0 (append-nil p ∙ h.0) k.1 h.1 k.3 in
    let a = front_of l q k.0 k.1 in
    absurd (omega (arith, le, a.1, some_behind k.0 k.2, ap length h.0))
only_cuts limit b l (p ∷ r ∷ ps) [] h k = absurd k
only_cuts limit b l (p ∷ r ∷ ps) (q ∷ []) h k =
    let le = reaches limit b l q p [] h.0 (append-nil q ∙ k.0) h.1 k.1 h.3 in
    let a = front_of l p h.0 h.1 in
    absurd (omega (arith, le, a.1, some_behind h.0 h.2, ap length k.0))
only_cuts limit b l (p ∷ r ∷ ps) (q ∷ s ∷ qs) h k =
    let le = reaches limit b l p q h.0 k.0 h.1 k.1 h.3.0 k.3 in
    let ge = reaches limit b l q p k.0 h.0 k.1 h.1 k.3.0 h.3 in
    let same = same_front p q h.0 k.0 (h.1 ∙ sym k.1) (omega (arith, le, ge)) in
    let after : AreCuts limit b h.0 (s ∷ qs) =
    subst (λ (t : List Block). AreCuts limit b t (s ∷ qs)) (sym same.1) k.4 in
    let rest : r ∷ ps ≡ s ∷ qs = only_cuts limit b h.0 (r ∷ ps) (s ∷ qs) h.4 after in
    let front = same.0 in
    cc
