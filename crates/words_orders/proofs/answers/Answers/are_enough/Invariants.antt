use Rattle.std.proofs.Common.{◌≡◌, drop, map}
use Rattle.std.specs.List.{list_all}
use Rattle.words_sayings.specs.Steps.{table_of}
use Rattle.words_sayings.specs.Rows.{shape_of}
use Rattle.words_orders.specs.Asked.{is_enough, saying_of_answer}
use Rattle.words_orders.proofs.answers.Answers.are_enough.Given as goal

abbrev pub invariant-loop-row : goal.invariant-loop-row
invariant-loop-row l =
    list_all (is_enough (map saying_of_answer l.self.all.items)) (table_of (drop l.row-index l.rows)) ≡ list_all
    (is_enough (map saying_of_answer l.self.all.items)) (table_of l.rows)
