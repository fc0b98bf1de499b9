-- Each row of a table stands in it.
use Rattle.std.proofs.Common.{◌≡◌, List, arith, subst, map}
use Rattle.std.specs.Prelude.{Contains}
use Rattle.std.specs.List.{All}
use Rattle.std.proofs.lemmas.List.{get_or-map, length-map}
use Rattle.std.proofs.lemmas.List.Elements.{Contains-get_or}
use Rattle.words_values.specs.declared.rows.Row.{Row}
use Rattle.words_sayings.specs.Rows.{Shape, shape_of}

rows_in : (rows : List Row) → All (λ row. Contains (map shape_of rows) (shape_of row)) rows
rows_in rows = λ k d below.
    subst (Contains (map shape_of rows)) (get_or-map shape_of rows k d (shape_of d) below)
    (Contains-get_or (map shape_of rows) k (shape_of d) (omega (arith, below, length-map rows shape_of)))

pub rows_last : (rows : List Row) (last : List Shape) → map shape_of rows ≡ last
    → All (λ row. Contains last (shape_of row)) rows
rows_last rows last is = subst (λ l. All (λ row. Contains l (shape_of row)) rows) is (rows_in rows)
