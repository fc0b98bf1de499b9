use Rattle.std.proofs.Common.{◌≡◌, drop}
use Rattle.std.specs.List.{find}
use Rattle.words_sayings.specs.Steps.{table_of}
use Rattle.words_sayings.specs.Rows.{shape_of}
use Rattle.words_sayings.specs.Words.{flag_of, is_letter}
use Rattle.words_sayings.proofs.saying.flag_of.Given as goal

abbrev pub invariant-loop-row : goal.invariant-loop-row
invariant-loop-row l =
    find (λ row. is_letter l.letter row.place) (table_of (drop l.row-index l.rows)) ≡ flag_of (table_of l.rows) l.letter
