-- The runs of a list are the only maximal groups of it.
use Rattle.std.proofs.Common.{◌≡◌, ℕ, true, List, [], ◌∷◌, refl, sym, ap, ◌∙◌, inl, inr, eqb, eqb-true, eq-eqb}
use Rattle.std.proofs.Common.{bytes_eq}
use Rattle.std.specs.List.{AllByRecursion}
use Rattle.std.proofs.lemmas.Bool.{cases_Bool, and_parts, and_from}
use Rattle.abt_sparse.specs.Block.{Block, Raw, Fill, Skip}
use Rattle.abt_sparse.specs.Runs.{alike, grouped, runs, IsRun, Apart, IsRuns, joined}

-- ---- blocks that are alike

pub same_bytes : (v w : List ℕ) → bytes_eq v w ≡ true → v ≡ w
same_bytes [] [] e = refl
same_bytes [] (y ∷ w) e = absurd cc
same_bytes (x ∷ v) [] e = absurd cc
same_bytes (x ∷ v) (y ∷ w) e = let p = and_parts (eqb x y) (bytes_eq v w) e in let h : x ≡ y = eqb-true x y p.0 in
    let t = same_bytes v w p.1 in cc

pub bytes_same : (v : List ℕ) → bytes_eq v v ≡ true
bytes_same [] = refl
bytes_same (x ∷ v) = and_from (eqb x x) (bytes_eq v v) (eq-eqb x x refl) (bytes_same v)

-- what is alike to one of two that are alike is alike to the other
same_run : (x y z : Block) → alike x y ≡ true → alike x z ≡ alike y z
same_run (Raw x) (Raw y) (Raw z) e = refl
same_run (Raw x) (Raw y) (Fill z) e = refl
same_run (Raw x) (Raw y) Skip e = refl
same_run (Fill v) (Fill w) z e = ap (λ (t : List ℕ). alike (Fill t) z) (same_bytes v w e)
same_run Skip Skip z e = refl
same_run (Raw x) (Fill y) z e = absurd cc
same_run (Raw x) Skip z e = absurd cc
same_run (Fill x) (Raw y) z e = absurd cc
same_run (Fill x) Skip z e = absurd cc
same_run Skip (Raw y) z e = absurd cc
same_run Skip (Fill y) z e = absurd cc

all_same : (x y : Block) (g : List Block) → alike x y ≡ true → AllByRecursion (λ z. alike y z ≡ true) g
    → AllByRecursion (λ z. alike x z ≡ true) g
all_same x y [] e h = tt
all_same x y (z ∷ g) e h = (same_run x y z e ∙ h.0, all_same x y g e h.1)

all_back : (x y : Block) (g : List Block) → alike x y ≡ true → AllByRecursion (λ z. alike x z ≡ true) g
    → AllByRecursion (λ z. alike y z ≡ true) g
all_back x y [] e h = tt
all_back x y (z ∷ g) e h = (sym (same_run x y z e) ∙ h.0, all_back x y g e h.1)

-- ---- the runs are such groups

pub joined-grouped : (x : Block) (gs : List (List Block)) → joined (grouped x gs) ≡ x ∷ joined gs
joined-grouped x [] = refl
joined-grouped x ([] ∷ gs) = refl
joined-grouped x ((y ∷ g) ∷ gs) = elim (cases_Bool (alike x y)) [ inl e ↦ rw e refl | inr e ↦ rw e refl ]

pub joined-runs : (l : List Block) → joined (runs l) ≡ l
joined-runs [] = refl
joined-runs (x ∷ l) = joined-grouped x (runs l) ∙ ap (λ (t : List Block). x ∷ t) (joined-runs l)

each_grouped : (x : Block) (gs : List (List Block)) → AllByRecursion IsRun gs → AllByRecursion IsRun (grouped x gs)
each_grouped x [] h = (tt, tt)
each_grouped x ([] ∷ gs) h = absurd h.0
each_grouped x ((y ∷ g) ∷ gs) h = elim (cases_Bool (alike x y)) [
  | inl e ↦ rw e ((e, all_same x y g e h.0), h.1)
  | inr e ↦ rw e (tt, h)
]

pub each-runs : (l : List Block) → AllByRecursion IsRun (runs l)
each-runs [] = tt
each-runs (x ∷ l) = each_grouped x (runs l) (each-runs l)

apart_front : (x y : Block) (g : List Block) (gs : List (List Block)) → alike x y ≡ true → Apart ((y ∷ g) ∷ gs)
    → Apart ((x ∷ y ∷ g) ∷ gs)
apart_front x y g [] e h = tt
apart_front x y g ([] ∷ gs) e h = absurd h
apart_front x y g ((z ∷ k) ∷ gs) e h = (same_run x y z e ∙ h.0, h.1)

apart_grouped : (x : Block) (gs : List (List Block)) → AllByRecursion IsRun gs → Apart gs → Apart (grouped x gs)
apart_grouped x [] h k = tt
apart_grouped x ([] ∷ gs) h k = absurd h.0
apart_grouped x ((y ∷ g) ∷ gs) h k = elim (cases_Bool (alike x y)) [
  | inl e ↦ rw e (apart_front x y g gs e k)
  | inr e ↦ rw e (e, k)
]

pub apart-runs : (l : List Block) → Apart (runs l)
apart-runs [] = tt
apart-runs (x ∷ l) = apart_grouped x (runs l) (each-runs l) (apart-runs l)

pub runs_are : (l : List Block) → IsRuns l (runs l)
runs_are l = record { whole = joined-runs l; each = each-runs l; apart = apart-runs l }

-- ---- and no others are

apart_rest : (g : List Block) (gs : List (List Block)) → Apart (g ∷ gs) → AllByRecursion IsRun gs → Apart gs
apart_rest g [] h k = tt
apart_rest [] (z ∷ gs) h k = absurd h
apart_rest (x ∷ g) ([] ∷ gs) h k = absurd k.0
apart_rest (x ∷ g) ((y ∷ z) ∷ gs) h k = h.1

apart_back : (x y : Block) (g : List Block) (gs : List (List Block)) → alike x y ≡ true → Apart ((x ∷ y ∷ g) ∷ gs)
    → Apart ((y ∷ g) ∷ gs)
apart_back x y g [] e h = tt
apart_back x y g ([] ∷ gs) e h = absurd h
apart_back x y g ((z ∷ k) ∷ gs) e h = (sym (same_run x y z e) ∙ h.0, h.1)

grouped_apart : (x : Block) (gs : List (List Block)) → AllByRecursion IsRun gs → Apart ((x ∷ []) ∷ gs)
    → grouped x gs ≡ (x ∷ []) ∷ gs
grouped_apart x [] h k = refl
grouped_apart x ([] ∷ gs) h k = absurd h.0
grouped_apart x ((y ∷ g) ∷ gs) h k = rw k.0 refl

pub only_runs : (l : List Block) (gs : List (List Block)) → joined gs ≡ l → AllByRecursion IsRun gs → Apart gs
    → runs l ≡ gs
only_runs l [] e h k = rw (← e) refl
only_runs l ([] ∷ gs) e h k = absurd h.0
only_runs [] ((x ∷ g) ∷ gs) e h k = absurd cc
only_runs (w ∷ l) ((x ∷ []) ∷ gs) e h k =
    let head : x ≡ w = cc in
    let rest : joined gs ≡ l = cc in
    rw (← head, only_runs l gs rest h.1 (apart_rest (x ∷ []) gs k h.1)) (grouped_apart x gs h.1 k)
only_runs (w ∷ l) ((x ∷ y ∷ g) ∷ gs) e h k =
    let head : x ≡ w = cc in
    let rest : joined ((y ∷ g) ∷ gs) ≡ l = cc in
    let like : alike x y ≡ true = h.0.0 in
    rw (
      ← head,
      only_runs l ((y ∷ g) ∷ gs) rest (all_back x y g like h.0.1, h.1) (apart_back x y g gs like k),
      like,
    ) refl
