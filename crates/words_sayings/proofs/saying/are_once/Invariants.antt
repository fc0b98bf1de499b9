use Rattle.std.proofs.Common.{◌≡◌, drop, map}
use Rattle.std.specs.List.{list_all}
use Rattle.words_sayings.specs.Steps.{table_of}
use Rattle.words_sayings.specs.Rows.{shape_of}
use Rattle.words_sayings.specs.Words.{is_once, saying_of}
use Rattle.words_sayings.proofs.saying.are_once.Given as goal

abbrev pub invariant-loop-row : goal.invariant-loop-row
invariant-loop-row l =
    list_all (is_once (map saying_of l.said)) (table_of (drop l.row-index l.rows)) ≡ list_all
    (is_once (map saying_of l.said)) (table_of l.rows)
