use Rattle.std.proofs.Common.{◌≡◌, drop, map}
use Rattle.words_sayings.specs.Words.{has_placed}
use Rattle.words_sayings.proofs.saying.has_placed.Given as goal

abbrev pub invariant-loop-word : goal.invariant-loop-word
invariant-loop-word g l =
    has_placed l.is_ended (map g.S.AsStr.text (drop l.word-index l.words))
    ≡ has_placed l.was_ended (map g.S.AsStr.text l.words)
