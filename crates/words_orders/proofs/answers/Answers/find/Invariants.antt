use Rattle.std.proofs.Common.{◌≡◌, drop}
use Rattle.words_orders.specs.Asked.{answer_named}
use Rattle.words_orders.proofs.answers.Answers.find.Given as goal

abbrev pub invariant-loop-answer : goal.invariant-loop-answer
invariant-loop-answer l = answer_named l.name l.answer-items ≡ answer_named l.name (drop l.answer-index l.answer-items)
