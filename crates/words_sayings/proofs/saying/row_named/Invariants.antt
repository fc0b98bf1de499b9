use Rattle.std.proofs.Common.{◌≡◌, drop}
use Rattle.std.specs.List.{find}
use Rattle.words_sayings.specs.Steps.{table_of}
use Rattle.words_sayings.specs.Rows.{shape_of}
use Rattle.words_sayings.specs.Words.{names_row, row_named}
use Rattle.words_sayings.proofs.saying.row_named.Given as goal

abbrev pub invariant-loop-row : goal.invariant-loop-row
invariant-loop-row l =
    find (names_row l.is_short (table_of l.rows) l.said) (table_of (drop l.row-index l.rows)) ≡ row_named l.is_short
    (table_of l.rows) l.said
