use Rattle.std.proofs.Common.{◌≡◌, ◌++◌, drop, map}
use Rattle.words_orders.specs.Asked.{words_named}
use Rattle.words_orders.proofs.answers.Answers.push_words.Given as goal

abbrev pub invariant-loop-answer : goal.invariant-loop-answer
invariant-loop-answer l =
    map (λ s. s.now) l.words.items ++ words_named l.name (drop l.answer-index l.answer-items)
    ≡ map (λ s. s.now) l.fn.words.items ++ words_named l.name l.answer-items
