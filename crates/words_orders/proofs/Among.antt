-- What two functions give of each element.
use Rattle.std.proofs.Common.{◌≡◌, ◌∙◌, List, sym, ap, map, get_or}
use Rattle.std.specs.List.{All}
use Rattle.std.proofs.lemmas.List.{get_or-map}

-- what two functions give of each element, where they give the same lists
pub all_alike : {X Y : Type 0} (f g : X → Y) (xs : List X) → map f xs ≡ map g xs → All (λ x. f x ≡ g x) xs
all_alike f g xs same = λ k d below.
    sym (get_or-map f xs k d (f d) below) ∙ ap (λ l. get_or l k (f d)) same ∙ get_or-map g xs k d (f d) below
