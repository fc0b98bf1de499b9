use Rattle.std.proofs.Common.{◌≡◌, ◌++◌, map, drop}
use Rattle.std.specs.List.{All}
use Rattle.words_orders.specs.Asked.{IsReadRight, saying_of_answer}
use Rattle.words_orders.specs.Reads.{CanBeRead}
use Rattle.words_sayings.specs.Rows.{shape_of}
use Rattle.words_sayings.specs.Words.{answers_due, left_over, saying_of}
use Rattle.words_orders.proofs.answers.Answers.read_rows.Given as goal

abbrev pub invariant-loop-row : goal.invariant-loop-row
invariant-loop-row l =
    (map saying_of_answer l.self.all.items
    ++ answers_due (map (λ row. shape_of row.now) (drop l.row-index l.rows)) (map saying_of l.said)
    (map (λ s. s.now) l.left)
    ≡ map saying_of_answer l.fn.self.all.items
    ++ answers_due (map (λ row. shape_of row.now) l.rows) (map saying_of l.said) (map (λ s. s.now) l.placed))
    × (left_over (map (λ row. shape_of row.now) (drop l.row-index l.rows)) (map (λ s. s.now) l.left)
    ≡ left_over (map (λ row. shape_of row.now) l.rows) (map (λ s. s.now) l.placed))
    × (All IsReadRight l.fn.self.all.items → All IsReadRight l.self.all.items)
    × (All CanBeRead (answers_due (map (λ row. shape_of row.now) l.rows) (map saying_of l.said)
    (map (λ s. s.now) l.placed))
    → All CanBeRead (answers_due (map (λ row. shape_of row.now) (drop l.row-index l.rows)) (map saying_of l.said)
    (map (λ s. s.now) l.left)))
