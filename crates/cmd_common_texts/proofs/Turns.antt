-- One more turn of a loop over a list.
use Rattle.std.proofs.Common.{◌≡◌, ℕ, suc, ◌+◌, ◌<◌, List, [], ◌++◌, length, take, get_or, flat_map, sym, ap, ◌∙◌}
use Rattle.std.proofs.Common.{arith}
use Rattle.std.proofs.Math.Seq.{take-suc}
use Rattle.std.proofs.lemmas.List.{flat_map_more}

pub one_more : {X A : Type 0} (f : X → List A) (xs : List X) (i : ℕ) (d : X) → i < length xs
    → flat_map f (take i xs) ++ f (get_or xs i d) ≡ flat_map f (take (i + 1) xs)
one_more f xs i d p =
    let next : suc i ≡ i + 1 = omega arith in
    flat_map_more f [] (take i xs) (get_or xs i d) ∙ ap (flat_map f) (sym (take-suc xs i d p))
    ∙ ap (λ k. flat_map f (take k xs)) next
