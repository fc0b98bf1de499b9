-- Lists that a loop goes through, one element further.
use Rattle.std.proofs.Common.{◌+◌, ◌≡◌, ℕ, ◌<◌, ◌≤◌, List, Some, None, ◌∙◌, ap, drop, length, get_or}
use Rattle.std.specs.Prelude.{Bool, true, false}
use Rattle.std.specs.List.{find}
use Rattle.std.proofs.lemmas.List.{drop_all, drop_more}
use Rattle.std.proofs.lemmas.Bool.{cond-true, cond-false}

-- the element at hand is the one that is looked for, or none is
pub found_now : {X : Type 0} (test : X → Bool) (xs : List X) (i : ℕ) (d : X) → i < length xs
    → test (get_or xs i d) ≡ true
    → find test (drop i xs) ≡ Some (get_or xs i d)
found_now test xs i d below holds = ap (find test) (drop_more xs i d below) ∙ cond-true _ _ _ holds

pub found_later : {X : Type 0} (test : X → Bool) (xs : List X) (i : ℕ) (d : X) → i < length xs
    → test (get_or xs i d) ≡ false
    → find test (drop i xs) ≡ find test (drop (i + 1) xs)
found_later test xs i d below fails = ap (find test) (drop_more xs i d below) ∙ cond-false _ _ _ fails

pub found_nowhere : {X : Type 0} (test : X → Bool) (xs : List X) (i : ℕ) → length xs ≤ i → find test (drop i xs) ≡ None
found_nowhere test xs i past = ap (find test) (drop_all i xs past)
