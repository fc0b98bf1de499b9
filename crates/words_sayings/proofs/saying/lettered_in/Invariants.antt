use Rattle.std.proofs.Common.{◌≡◌, drop}
use Rattle.std.specs.List.{find}
use Rattle.words_sayings.specs.Steps.{table_of}
use Rattle.words_sayings.specs.Rows.{shape_of}
use Rattle.words_sayings.specs.Words.{begins_with, lettered_in}
use Rattle.words_sayings.proofs.saying.lettered_in.Given as goal

abbrev pub invariant-loop-row : goal.invariant-loop-row
invariant-loop-row l =
    find (begins_with l.text) (table_of (drop l.row-index l.rows)) ≡ lettered_in (table_of l.rows) l.text
