-- What a spool was given, piece after piece.
use Rattle.std.proofs.Common.{◌≡◌, ℕ, ◌+◌, ◌≤◌, List, [], ◌∷◌, ◌++◌, length, take, drop, refl, sym, ap, subst, ◌∙◌}
use Rattle.std.proofs.Common.{append_assoc, take-append-drop}
use Rattle.std.specs.List.{concat}
use Rattle.abt_flash.specs.Delivering.{Begins, PiecesFit, WithinLimit, with_cuts}

within_then : (limit n0 n1 n2 : ℕ) (xs ys : List ℕ) → WithinLimit limit n0 n1 ys → WithinLimit limit n1 n2 xs
    → WithinLimit limit n0 n2 (xs ++ ys)
within_then limit n0 n1 n2 [] ys h k = subst (λ (n : ℕ). WithinLimit limit n0 n ys) k h
within_then limit n0 n1 n2 (x ∷ xs) ys h k = (k.0, k.1, within_then limit n0 n1 x xs ys h k.2)

pub fits_none : (limit : ℕ) (cuts : List ℕ) (n : ℕ) → PiecesFit limit cuts cuts n n
fits_none limit cuts n = record { clears = []; joined = refl; fit = refl }

-- one call after another
pub fits_then : (limit : ℕ) (c0 c1 c2 : List ℕ) (n0 n1 n2 : ℕ) → PiecesFit limit c0 c1 n0 n1
    → PiecesFit limit c1 c2 n1 n2 → PiecesFit limit c0 c2 n0 n2
fits_then limit c0 c1 c2 n0 n1 n2 h k = record {
  clears = k.clears ++ h.clears;
  joined = k.joined ∙ ap (λ (c : List ℕ). k.clears ++ c) h.joined ∙ sym (append_assoc k.clears h.clears c0);
  fit = within_then limit n0 n1 n2 k.clears h.clears h.fit k.fit;
}

-- one piece, or a beginning of one, after a clear
pub fits_one : (limit : ℕ) (cuts cuts' : List ℕ) (n n' : ℕ) → cuts' ≡ n ∷ cuts → n ≤ n' → n' ≤ n + limit
    → PiecesFit limit cuts cuts' n n'
fits_one limit cuts cuts' n n' e grown within = record { clears = n ∷ []; joined = e; fit = (grown, within, refl) }

-- what is written, and what is still to come, is the whole
pub written_then : (w w' whole x : List ℕ) (xs : List (List ℕ)) → w ++ concat (x ∷ xs) ≡ whole → w' ≡ w ++ x
    → w' ++ concat xs ≡ whole
written_then w w' whole x xs e more = ap (λ (y : List ℕ). y ++ concat xs) more ∙ append_assoc w x (concat xs) ∙ e

-- so a beginning of the next piece is a beginning of the whole
pub begins_then : (w w' whole x : List ℕ) (xs : List (List ℕ)) → w ++ concat (x ∷ xs) ≡ whole → Begins w' (w ++ x)
    → Begins w' whole
begins_then w w' whole x xs e h = record {
  more = h.more ++ concat xs;
  joined = sym (append_assoc w' h.more (concat xs)) ∙ ap (λ (y : List ℕ). y ++ concat xs) h.joined
      ∙ append_assoc w x (concat xs) ∙ e;
}

pub cuts_then : (c c' whole : List ℕ) (n n' : ℕ) (x : List ℕ) (xs : List (List ℕ)) → with_cuts c n (x ∷ xs) ≡ whole
    → c' ≡ n ∷ c → n' ≡ n + length x → with_cuts c' n' xs ≡ whole
cuts_then c c' whole n n' x xs e cut long = ap (λ (k : List ℕ). with_cuts k n' xs) cut
    ∙ ap (λ (k : ℕ). with_cuts (n ∷ c) k xs) long ∙ e

pub begins_front : (old new x : List ℕ) (d : ℕ) → new ≡ old ++ take d x → Begins new (old ++ x)
begins_front old new x d e = record {
  more = drop d x;
  joined = ap (λ (y : List ℕ). y ++ drop d x) e
      ∙ append_assoc old (take d x) (drop d x) ∙ ap (λ (y : List ℕ). old ++ y) (take-append-drop d x);
}
