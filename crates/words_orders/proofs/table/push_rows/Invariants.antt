use Rattle.std.proofs.Common.{◌≡◌, ◌++◌, drop, map}
use Rattle.words_sayings.specs.Rows.{shape_of}
use Rattle.words_orders.proofs.table.push_rows.Given as goal

abbrev pub invariant-loop-row : goal.invariant-loop-row
invariant-loop-row l =
    map (λ row. shape_of row.now) l.rows.items ++ map shape_of (drop l.row-index l.more)
    ≡ map (λ row. shape_of row.now) l.fn.rows.items ++ map shape_of l.more
