-- What was given for the rows of a table, one row further.
use Rattle.std.proofs.Common.{◌≡◌, ◌+◌, ◌<◌, ◌∙◌, ℕ, List, [], ◌∷◌, ◌++◌, arith, sym, ap, subst, take, map, length}
use Rattle.std.proofs.Common.{get_or}
use Rattle.std.specs.List.{AllZip}
use Rattle.std.proofs.lemmas.List.{get_or-map, length-map, take_more}
use Rattle.std.proofs.lemmas.Slice.Zip.{all_zipped_more}

pub given_more : {X S Y : Type 0} (R : S → Y → Type 0) (shape : X → S) (rows : List X) (shapes : List S)
    (i : ℕ) (d : X) (ys : List Y) (y : Y) → map shape rows ≡ shapes → i < length rows → AllZip R (take i shapes) ys
    → R (shape (get_or rows i d)) y
    → AllZip R (take (i + 1) shapes) (ys ++ (y ∷ []))
given_more R shape rows shapes i d ys y shaped below so_far here =
    let at : shape (get_or rows i d) ≡ get_or shapes i (shape d) =
    sym (get_or-map shape rows i d (shape d) below) ∙ ap (λ l. get_or l i (shape d)) shaped in
    let many : length shapes ≡ length rows = sym (ap length shaped) ∙ length-map rows shape in
    subst (λ l. AllZip R l (ys ++ (y ∷ []))) (sym (take_more shapes i (shape d) (omega (arith, many, below))))
    (all_zipped_more R (take i shapes) ys (get_or shapes i (shape d)) y so_far (subst (λ n. R n y) at here))
