-- The words behind a program's name and `as`.
use Rattle.std.proofs.Common.{arith, ◌-◌, ◌≡◌, ◌≤◌, ◌∙◌, ℕ, List, [], ◌∷◌, sym, ap, take, drop, map, length, get_or}
use Rattle.std.proofs.lemmas.List.{drop-map, drop_more, length-drop, take_all}

-- a list from its third element on
pub third_on : {X Y : Type 0} (f : X → Y) (xs : List X) → map f (take (length xs - 2) (drop 2 xs)) ≡ drop 2 (map f xs)
third_on f xs =
    ap (map f) (take_all (length xs - 2) (drop 2 xs) (omega (arith, length-drop 2 xs))) ∙ sym (drop-map f 2 xs)

-- a list of two elements at least begins with them
pub two_first : (words : List (List ℕ)) (second : List ℕ) → 2 ≤ length words → get_or words 1 [] ≡ second
    → words ≡ get_or words 0 [] ∷ (second ∷ drop 2 words)
two_first words second many is =
    drop_more words 0 [] (omega (arith, many))
    ∙ ap (λ l. get_or words 0 [] ∷ l) (drop_more words 1 [] (omega (arith, many)) ∙ ap (λ w. w ∷ drop 2 words) is)
