-- The numbers that words of `--board-id` set.
use Rattle.std.proofs.Common.{◌≡◌, ℕ, zero, suc, ◌<◌, List, [], ◌∷◌, ◌++◌, length, get_or, map, set, take, ◌+◌, refl}
use Rattle.std.proofs.Common.{sym, subst, ap, ◌∙◌, arith}
use Rattle.std.proofs.lemmas.List.{map-append, take_more}
use Rattle.abt_sections.specs.declared.spec.FragmentSpec.{FragmentSpec}
use Rattle.cmd_common_boot.specs.Boards.{AreSet, IsSet, with_fragment, with_place}

-- the fragment that is named is the one that is put there
pub fragment_put : (fs : List FragmentSpec) (i k n : ℕ) (d : FragmentSpec) → i < length fs
    → set fs i (with_place (get_or fs i d) k n) ≡ with_fragment fs i k n
fragment_put [] i k n d there = absurd (omega arith)
fragment_put (g ∷ fs) zero k n d there = refl
fragment_put (g ∷ fs) (suc i) k n d there =
    ap (λ (l : List FragmentSpec). g ∷ l) (fragment_put fs i k n d (omega (arith, there)))

-- where there is none, nothing is
pub no_fragment : (fs : List FragmentSpec) (i k n : ℕ) → (i < length fs → ⊥) → fs ≡ with_fragment fs i k n
no_fragment [] i k n none = refl
no_fragment (g ∷ fs) zero k n none = absurd (none (omega arith))
no_fragment (g ∷ fs) (suc i) k n none =
    ap (λ (l : List FragmentSpec). g ∷ l) (no_fragment fs i k n (λ h. none (omega (arith, h))))

-- one word more
pub one_more_set : (words : List (List ℕ)) (word : List ℕ) (old between new : List FragmentSpec)
    → AreSet words old between → IsSet word between new → AreSet (words ++ (word ∷ [])) old new
one_more_set [] word old between new same last =
    (new, subst (λ (l : List FragmentSpec). IsSet word l new) same last, refl)
one_more_set (w ∷ words) word old between new before last =
    (before.0, before.1, one_more_set words word before.0 between new before.2 last)

-- and in a list of words that are fields of other values
pub more_set : {X : Type 0} (f : X → List ℕ) (ws : List X) (i : ℕ) (d : X) (old between new : List FragmentSpec)
    → i < length ws → AreSet (map f (take i ws)) old between → IsSet (f (get_or ws i d)) between new
    → AreSet (map f (take (i + 1) ws)) old new
more_set f ws i d old between new there before last =
    let more : map f (take (i + 1) ws) ≡ map f (take i ws) ++ (f (get_or ws i d) ∷ []) =
    ap (map f) (take_more ws i d there) ∙ map-append f (take i ws) (get_or ws i d ∷ []) in
    subst (λ (l : List (List ℕ)). AreSet l old new) (sym more)
    (one_more_set (map f (take i ws)) (f (get_or ws i d)) old between new before last)
