-- Names of pieces, taken apart.
use Rattle.std.proofs.Common.{◌≡◌, ◌≢◌, ◌↔◌, ◌∙◌, ℕ, ◌<◌, Bool, true, false, IsTrue, List, ◌∷◌, ◌++◌, MatchBool, length}
use Rattle.std.proofs.Common.{drop, refl, sym, ap, subst, arith}
use Rattle.std.specs.List.{All, AllWithin, HoldsAt}
use Rattle.std.proofs.lemmas.Bool.{false≢true}
use Rattle.std.proofs.lemmas.List.{append_cancel_left}
use Rattle.cmd_common_sparse.specs.PieceNames.{IsDigit, IsPieceName}

-- what stands behind a front that was taken off
pub behind : (prefix path rest : List ℕ) (n : ℕ) → path ≡ prefix ++ drop n path → rest ≡ drop n path
    → path ≡ prefix ++ rest
behind prefix path rest n e q = e ∙ ap (λ r. prefix ++ r) (sym q)

same_rest : (prefix path rest tail : List ℕ) → path ≡ prefix ++ rest → path ≡ prefix ++ tail → rest ≡ tail
same_rest prefix path rest tail e q = append_cancel_left prefix rest tail (sym e ∙ q)

same_tail : (a b : List ℕ) → 46 ∷ a ≡ 46 ∷ b → a ≡ b
same_tail a b e = cc

-- what does not go on with a point is no name of a piece
pub no_point : (prefix path rest : List ℕ) → path ≡ prefix ++ rest → ((tail : List ℕ) → rest ≢ 46 ∷ tail)
    → IsPieceName prefix path → ⊥
no_point prefix path rest e none p = none p.0 (same_rest prefix path rest (46 ∷ p.0) e p.1)

-- behind the point it is the digits that decide
pub by_digits : (prefix path rest digits text : List ℕ) (r : Bool) → path ≡ prefix ++ rest → rest ≡ 46 ∷ digits
    → 0 < length digits → text ≡ digits → IsTrue r ↔ All IsDigit text → IsTrue r ↔ IsPieceName prefix path
by_digits prefix path rest digits text r e q some same by_text =
    let b = subst (λ (d : List ℕ). IsTrue r ↔ All IsDigit d) same by_text in
    let whole : path ≡ prefix ++ (46 ∷ digits) = e ∙ ap (λ s. prefix ++ s) q in (
      λ t. (digits, whole, some, b.0 t),
      λ p. let s : 46 ∷ p.0 ≡ 46 ∷ digits = sym (same_rest prefix path (46 ∷ digits) (46 ∷ p.0) whole p.1) in
          b.1 (subst (λ (d : List ℕ). All IsDigit d) (same_tail p.0 digits s) p.3),
    )

-- `all` of the digits
pub decided : (r : Bool) (xs : List ℕ) → MatchBool r (AllWithin IsDigit xs 0 (length xs)) ((k : ℕ) × (k < length xs)
    × HoldsAt (λ x. IsDigit x → ⊥) xs k) → IsTrue r ↔ All IsDigit xs
decided true xs h = (λ _ k d l. h k d (omega arith) l, λ _. refl)
decided false xs h = (λ e. absurd (false≢true e), λ w. absurd (h.2 0 (w h.0 0 h.1)))
