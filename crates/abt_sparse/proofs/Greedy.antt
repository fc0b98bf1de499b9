-- Cutting a list greedily, by a test that holds for each part of what passes it.
use Rattle.std.proofs.Common.{◌≡◌, ℕ, zero, suc, take, drop, ◌≤◌, Bool, true, false, List, [], ◌∷◌, ◌++◌, length, refl}
use Rattle.std.proofs.Common.{sym, ap, ◌∙◌, append_assoc, append-nil, arith, inl, inr}
use Rattle.std.specs.List.{AllByRecursion}
use Rattle.std.proofs.lemmas.Bool.{cases_Bool}
use Rattle.abt_sparse.specs.Runs.{greedy, tail_parts, joined}

-- one step, by how the test goes
pub greedy-more : {X : Type 0} (fits : List X → Bool) (x : X) (l part : List X) → fits (part ++ x ∷ []) ≡ true
    → greedy fits part (x ∷ l) ≡ greedy fits (part ++ x ∷ []) l
greedy-more fits x l part e = rw (e, greedy) refl

pub greedy-ends : {X : Type 0} (fits : List X → Bool) (x : X) (l part : List X) → fits (part ++ x ∷ []) ≡ false
    → greedy fits part (x ∷ l) ≡ part ∷ greedy fits (x ∷ []) l
greedy-ends fits x l part e = rw (e, greedy) refl

-- the parts are the whole list
pub joined-greedy : {X : Type 0} (fits : List X → Bool) (l part : List X) → joined (greedy fits part l) ≡ part ++ l
joined-greedy fits [] part = refl
joined-greedy {X = X} fits (x ∷ l) part = elim (cases_Bool (fits (part ++ x ∷ []))) [
  | inl e ↦ rw (greedy-more fits x l part e) (joined-greedy fits l (part ++ x ∷ []) ∙ append_assoc part (x ∷ []) l)
  | inr e ↦ rw (greedy-ends fits x l part e) (ap (λ (r : List X). part ++ r) (joined-greedy fits l (x ∷ [])))
]

module _ {X : Type 0} (fits : List X → Bool) (front : (a s : List X) → fits (a ++ s) ≡ true
    → fits s ≡ true) (back : (s c : List X) → fits (s ++ c) ≡ true → fits s ≡ true) where
  -- with more open, there are as many parts or one more
  pub fewer : (l s t : List X) → (length (greedy fits t l) ≤ length (greedy fits (s ++ t) l))
      × (length (greedy fits (s ++ t) l) ≤ suc (length (greedy fits t l)))
  fewer [] s t = (omega arith, omega arith)
  fewer (x ∷ l) s t = elim (cases_Bool (fits ((s ++ t) ++ x ∷ []))) [
    | inl e ↦
        let g : (s ++ t) ++ x ∷ [] ≡ s ++ (t ++ x ∷ []) = append_assoc s t (x ∷ []) in
        let h : fits (t ++ x ∷ []) ≡ true = front s (t ++ x ∷ []) (ap fits (sym g) ∙ e) in
        rw (greedy-more fits x l (s ++ t) e, greedy-more fits x l t h, g) (fewer l s (t ++ x ∷ []))
    | inr e ↦ elim (cases_Bool (fits (t ++ x ∷ []))) [
      | inl h ↦ let k = fewer l t (x ∷ []) in
          rw (greedy-ends fits x l (s ++ t) e, greedy-more fits x l t h) (omega arith, omega arith)
      | inr h ↦ rw (greedy-ends fits x l (s ++ t) e, greedy-ends fits x l t h) (omega arith, omega arith)
    ]
  ]

  -- a list that goes on in what still fits
  along : (rest : List X) (n : ℕ) → ((part : List X) → length (greedy fits part rest) ≤ suc n) → (q part : List X)
      → fits (part ++ q) ≡ true → length (greedy fits part (q ++ rest)) ≤ suc n
  along rest n base [] part h = base part
  along rest n base (y ∷ q) part h =
      let g : (part ++ y ∷ []) ++ q ≡ part ++ (y ∷ q) = append_assoc part (y ∷ []) q in
      let whole : fits ((part ++ y ∷ []) ++ q) ≡ true = ap fits g ∙ h in
      let e : fits (part ++ y ∷ []) ≡ true = back (part ++ y ∷ []) q whole in
      rw (greedy-more fits y (q ++ rest) part e) (along rest n base q (part ++ y ∷ []) whole)

  bounded : (ds : List (List X)) → AllByRecursion (λ d. fits d ≡ true) ds → (part : List X)
      → length (greedy fits part (joined ds)) ≤ suc (length ds)
  bounded [] h part = omega arith
  bounded (d ∷ ds) h part =
      let one = along (joined ds) (length ds) (bounded ds h.1) d [] h.0 in
      let two = fewer (joined (d ∷ ds)) part [] in
      let three : length (greedy fits part (joined (d ∷ ds))) ≤ suc (length (greedy fits [] (joined (d ∷ ds)))) =
      rw append-nil at two.1 in
      omega (arith, one, three)

  -- no other way to cut has fewer parts
  pub least : (l : List X) (ds : List (List X)) → joined ds ≡ l → 1 ≤ length ds
      → AllByRecursion (λ d. fits d ≡ true) ds → length (greedy fits [] l) ≤ length ds
  least l [] e some h = omega arith
  least l (d ∷ ds) e some h = rw (← e) (along (joined ds) (length ds) (bounded ds h.1) d [] h.0)

-- The first part goes exactly as far as the test allows: e elements more pass, and one more would not.
pub cut_at : {X : Type 0} (fits : List X → Bool) (back : (s c : List X) → fits (s ++ c) ≡ true
    → fits s ≡ true) (one : (x : X) → fits (x ∷ []) ≡ true) (rest : List X) (e : ℕ) (part : List X)
    → fits (part ++ take e rest) ≡ true → ((x : X) (more : List X) → drop e rest ≡ x ∷ more
    → fits ((part ++ take e rest) ++ x ∷ []) ≡ false)
    → greedy fits part rest ≡ (part ++ take e rest) ∷ tail_parts fits (drop e rest)
cut_at fits back one [] zero part ok ends = rw append-nil refl
cut_at fits back one [] (suc e) part ok ends = rw append-nil refl
cut_at fits back one (x ∷ l) zero part ok ends =
    let stop : fits (part ++ x ∷ []) ≡ false = rw append-nil at (ends x l refl) in
    rw (greedy-ends fits x l part stop, append-nil part, greedy-more fits x l [] (one x)) refl
cut_at {X = X} fits back one (x ∷ l) (suc e) part ok ends =
    let g : (part ++ x ∷ []) ++ take e l ≡ part ++ (x ∷ take e l) = append_assoc part (x ∷ []) (take e l) in
    let whole : fits ((part ++ x ∷ []) ++ take e l) ≡ true = ap fits g ∙ ok in
    let first : fits (part ++ x ∷ []) ≡ true = back (part ++ x ∷ []) (take e l) whole in
    greedy-more fits x l part first
    ∙ cut_at fits back one l e (part ++ x ∷ []) whole (λ y more d. ap (λ (s : List X). fits (s ++ y ∷ [])) g
    ∙ ends y more d)
    ∙ ap (λ (s : List X). s ∷ tail_parts fits (drop e l)) g

-- each part passes
pub parts_fit : {X : Type 0} (fits : List X → Bool) (one : (x : X) → fits (x ∷ []) ≡ true) (l part : List X)
    → fits part ≡ true → AllByRecursion (λ p. fits p ≡ true) (greedy fits part l)
parts_fit fits one [] part ok = (ok, tt)
parts_fit fits one (x ∷ l) part ok = elim (cases_Bool (fits (part ++ x ∷ []))) [
  | inl e ↦ rw (greedy-more fits x l part e) (parts_fit fits one l (part ++ x ∷ []) e)
  | inr e ↦ rw (greedy-ends fits x l part e) (ok, parts_fit fits one l (x ∷ []) (one x))
]
