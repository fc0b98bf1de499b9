use Rattle.std.proofs.Common.{◌≡◌, ◌++◌, map, drop}
use Rattle.std.specs.List.{All}
use Rattle.words_orders.specs.Asked.{IsReadRight, saying_of_answer}
use Rattle.words_sayings.specs.Rows.{shape_of}
use Rattle.words_sayings.specs.Words.{of_row}
use Rattle.words_orders.proofs.answers.Answers.read_words.Given as goal

abbrev pub invariant-loop-word : goal.invariant-loop-word
invariant-loop-word l =
    (map saying_of_answer l.self.all.items
    ++ map (of_row (shape_of l.row)) (map (λ s. s.now) (drop l.word-index l.words))
    ≡ map saying_of_answer l.fn.self.all.items ++ map (of_row (shape_of l.row)) (map (λ s. s.now) l.words))
    × (All IsReadRight l.fn.self.all.items → All IsReadRight l.self.all.items)
