-- How a piece is written to the spool: what is stored there, headers last.
use Rattle.std.proofs.Common.{nat_lt, ltb-true, ltb-false, ◌-◌, ◌*◌, ◌≤◌, ◌<◌, zero, suc, ◌+◌, ◌≡◌, ℕ, ◌⊎◌, List, []}
use Rattle.std.proofs.Common.{◌∷◌, ◌++◌, length, take, drop, sym, ap, subst, ◌∙◌, inl, inr, append-nil, append_assoc}
use Rattle.std.proofs.Common.{arith}
use Rattle.std.specs.List.{concat}
use Rattle.std.proofs.lemmas.List.{append_cancel_right, drop_all, take_all, take-append-drop}
use Rattle.std.proofs.lemmas.List.Folds.{concat-append}
use Rattle.std.proofs.Math.Seq.{drop-append_seam, take-add}
use Rattle.abt_io.specs.Frame.{last_cut}
use Rattle.std.proofs.lemmas.Bool.{cases_Bool}
use Rattle.abt_pieces.specs.Cutter.{piece_words}
use Rattle.abt_pieces.specs.Image.{Appended, IsPlainImage}
use Rattle.abt_placed.specs.Unfinished.{IsNoImage}
use Rattle.abt_flash.specs.Delivering.{EndsWhole, GaveNoPart, GaveWhole, IsWholeOrNone}

-- ---- some of the pieces, whole

pub gave_none : (old new : List ℕ) (xs : List (List ℕ)) → new ≡ old → GaveWhole old new xs
gave_none old new xs e = record { count = 0; gave = e ∙ sym (append-nil old) }

pub gave_one : (old new x : List ℕ) → new ≡ old ++ x → GaveWhole old new (x ∷ [])
gave_one old new x e = record { count = 1; gave = e ∙ ap (λ (y : List ℕ). old ++ y) (sym (append-nil x)) }

-- ---- after one call

-- nothing was written
pub no_part_none : (old new cuts : List ℕ) (xs : List (List ℕ)) → new ≡ old → GaveNoPart old new cuts xs
no_part_none old new cuts xs e = inl (gave_none old new xs e)

pub ends_none : (b : ℕ) (old new old_cuts new_cuts : List ℕ) → new ≡ old → new_cuts ≡ old_cuts
    → EndsWhole b old new old_cuts new_cuts
ends_none b old new old_cuts new_cuts e k = inl (e, k)

-- a piece was, whole
pub no_part_one : (old new cuts x : List ℕ) → new ≡ old ++ x → GaveNoPart old new cuts (x ∷ [])
no_part_one old new cuts x e = inl (gave_one old new x e)

pub ends_one : (b n : ℕ) (old new old_cuts new_cuts cuts : List ℕ) → new_cuts ≡ length old ∷ cuts
    → Appended (IsPlainImage b n) old new → EndsWhole b old new old_cuts new_cuts
ends_one b n old new old_cuts new_cuts cuts k h =
    let at : drop (last_cut new_cuts) new ≡ h.wrote = ap (λ (c : List ℕ). drop (last_cut c) new) k
    ∙ ap (drop (length old)) h.behind ∙ drop-append_seam old h.wrote in
    inr (inr (inl (n, subst (IsPlainImage b n) (sym at) h.is)))

-- a piece was not finished
pub no_part_late : (old new new_cuts cuts : List ℕ) (xs : List (List ℕ)) → new_cuts ≡ length old ∷ cuts
    → take (length old) new ≡ old → (new ≡ old) ⊎ IsNoImage (drop (length old) new) → GaveNoPart old new new_cuts xs
no_part_late old new new_cuts cuts xs k before (inl e) = inl (gave_none old new xs e)
no_part_late old new new_cuts cuts xs k before (inr none) =
    inr (
      gave_none old (take (last_cut new_cuts) new) xs (ap (λ (c : List ℕ). take (last_cut c) new) k ∙ before),
      subst (λ (c : List ℕ). IsNoImage (drop (last_cut c) new)) (sym k) none,
    )

pub ends_late : (b : ℕ) (old new old_cuts new_cuts cuts : List ℕ) → new_cuts ≡ length old ∷ cuts
    → (new ≡ old) ⊎ IsNoImage (drop (length old) new) → EndsWhole b old new old_cuts new_cuts
ends_late b old new old_cuts new_cuts cuts k (inl e) =
    inr (inl (ap (λ (c : List ℕ). drop (last_cut c) new) k ∙ ap (drop (length old)) e
    ∙ drop_all (length old) old (omega arith)))
ends_late b old new old_cuts new_cuts cuts k (inr none) =
    inr (inr (inr (subst (λ (c : List ℕ). IsNoImage (drop (last_cut c) new)) (sym k) none)))

-- ---- one call after another

pub ends_then : (b : ℕ) (w0 w1 w2 c0 c1 c2 : List ℕ) → EndsWhole b w0 w1 c0 c1 → EndsWhole b w1 w2 c1 c2
    → EndsWhole b w0 w2 c0 c2
ends_then b w0 w1 w2 c0 c1 c2 h (inr k) = inr k
ends_then b w0 w1 w2 c0 c1 c2 (inl e) (inl k) = inl (k.0 ∙ e.0, k.1 ∙ e.1)
ends_then b w0 w1 w2 c0 c1 c2 (inr h) (inl k) =
    inr (subst (IsWholeOrNone b) (ap (λ (w : List ℕ). drop (last_cut c1) w) (sym k.0)
    ∙ ap (λ (c : List ℕ). drop (last_cut c) w2) (sym k.1)) h)

-- what was written so far, where so many of the pieces are still to come
pub so_far : (w0 w : List ℕ) (xs : List (List ℕ)) (k : ℕ) → w ++ concat (drop k xs) ≡ w0 ++ concat xs
    → w ≡ w0 ++ concat (take k xs)
so_far w0 w xs k e = append_cancel_right w (w0 ++ concat (take k xs)) (concat (drop k xs)) (e
    ∙ ap (λ (y : List ℕ). w0 ++ y) (ap concat (sym (take-append-drop k xs)) ∙ concat-append (take k xs) (drop k xs))
    ∙ sym (append_assoc w0 (concat (take k xs)) (concat (drop k xs))))

-- one piece more, or none
gave_more : (w0 w w' : List ℕ) (xs : List (List ℕ)) (k : ℕ) (x : List ℕ) (rest : List (List ℕ))
    → w ≡ w0 ++ concat (take k xs) → drop k xs ≡ x ∷ rest → GaveWhole w w' (x ∷ []) → GaveWhole w0 w' xs
gave_more w0 w w' xs k x rest before next h = go h.count h.gave where
  go : (j : ℕ) → w' ≡ w ++ concat (take j (x ∷ [])) → GaveWhole w0 w' xs
  go zero e = record { count = k; gave = e ∙ append-nil w ∙ before }
  go (suc j) e = record {
    count = k + 1;
    gave =
        let one : take (suc j) (x ∷ []) ≡ x ∷ [] = take_all (suc j) (x ∷ []) (omega arith) in
        let more : take (k + 1) xs ≡ take k xs ++ (x ∷ []) =
        take-add k 1 xs ∙ ap (λ (ys : List (List ℕ)). take k xs ++ take 1 ys) next in
        e ∙ ap (λ (ys : List (List ℕ)). w ++ concat ys) one ∙ ap (λ (v : List ℕ). v ++ concat (x ∷ [])) before
        ∙ append_assoc w0 (concat (take k xs)) (concat (x ∷ []))
        ∙ ap (λ (y : List ℕ). w0 ++ y) (sym (concat-append (take k xs) (x ∷ [])))
        ∙ ap (λ (ys : List (List ℕ)). w0 ++ concat ys) (sym more);
  }

pub no_part_then : (w0 w w' cuts : List ℕ) (xs : List (List ℕ)) (k : ℕ) (x : List ℕ) (rest : List (List ℕ))
    → w ≡ w0 ++ concat (take k xs) → drop k xs ≡ x ∷ rest → GaveNoPart w w' cuts (x ∷ []) → GaveNoPart w0 w' cuts xs
no_part_then w0 w w' cuts xs k x rest before next (inl h) = inl (gave_more w0 w w' xs k x rest before next h)
no_part_then w0 w w' cuts xs k x rest before next (inr h) =
    inr (gave_more w0 w (take (last_cut cuts) w') xs k x rest before next h.0, h.1)

-- all of them
pub no_part_all : (w0 w cuts : List ℕ) (xs : List (List ℕ)) → w ≡ w0 ++ concat xs → GaveNoPart w0 w cuts xs
no_part_all w0 w cuts xs e =
    inl (record {
      count = length xs;
      gave = e
          ∙ ap (λ (ys : List (List ℕ)). w0 ++ concat ys) (sym (take_all (length xs) xs (omega arith)));
    })

-- ---- what a piece costs, headers last

pub late_words : (new most one n e : ℕ) → new ≤ most + one → (e < n → new ≤ most) → new ≤ most + piece_words one n e
late_words new most one n e all going = elim (cases_Bool (nat_lt (e + 1) n)) [
  | inl t ↦ let lt = ltb-true (e + 1) n t in let h = going (omega (arith, lt)) in rw t (omega (arith, h))
  | inr t ↦ elim (cases_Bool (nat_lt e n)) [
    | inl u ↦ let h = going (ltb-true e n u) in rw (t, u) (omega (arith, h))
    | inr u ↦ rw (t, u) (omega (arith, all))
  ]
]

pub late_takes : (new old bytes first past start next k : ℕ) → first ≤ past → first ≡ start → past ≡ next
    → new ≡ old + bytes → bytes ≤ (past - first) * k + 80 → new + start * k ≤ old + next * k + 80
late_takes new old bytes first past start next k order begins ends long takes =
    let all : past ≡ (past - first) + first = omega (arith, order) in
    let parts : past * k ≡ ((past - first) + first) * k = ap (λ (n : ℕ). n * k) all in
    let sum : ((past - first) + first) * k ≡ (past - first) * k + first * k = omega arith in
    let b : first * k ≡ start * k = ap (λ (n : ℕ). n * k) begins in
    let e : past * k ≡ next * k = ap (λ (n : ℕ). n * k) ends in
    omega (arith, parts, sum, b, e, long, takes)

pub passes_on : (n first past : ℕ) → (past < n → first < past) → first ≤ n → first ≤ past
passes_on n first past moves within = elim (cases_Bool (nat_lt past n)) [
  | inl t ↦ let lt = moves (ltb-true past n t) in omega (arith, lt)
  | inr t ↦ let le = ltb-false past n t in omega (arith, le, within)
]
