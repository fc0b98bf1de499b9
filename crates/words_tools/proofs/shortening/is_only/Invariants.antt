use Rattle.std.proofs.Common.{◌≡◌, drop, map}
use Rattle.std.specs.List.{list_all}
use Rattle.words_sayings.specs.Rows.{shape_of}
use Rattle.words_sayings.specs.Words.{is_only}
use Rattle.words_tools.proofs.shortening.is_only.Given as goal

abbrev pub invariant-loop-row : goal.invariant-loop-row
invariant-loop-row l =
    list_all (is_only l.short l.name) (map shape_of (drop l.row-index l.rows))
    ≡ list_all (is_only l.short l.name) (map shape_of l.rows)
