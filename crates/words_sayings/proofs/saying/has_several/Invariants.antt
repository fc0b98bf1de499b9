use Rattle.std.proofs.Common.{◌≡◌, drop}
use Rattle.std.specs.List.{list_any}
use Rattle.words_sayings.specs.Steps.{table_of}
use Rattle.words_sayings.specs.Words.{is_several}
use Rattle.words_sayings.proofs.saying.has_several.Given as goal

abbrev pub invariant-loop-row : goal.invariant-loop-row
invariant-loop-row l =
    list_any (λ row. is_several row.place) (table_of (drop l.row-index l.rows))
    ≡ list_any (λ row. is_several row.place) (table_of l.rows)
