use Rattle.std.proofs.Common.{◌≡◌, ◌≤◌, ◌+◌, drop, map, length}
use Rattle.words_sayings.specs.Words.{said_words, saying_of}
use Rattle.words_sayings.proofs.saying.count_said.Given as goal

abbrev pub invariant-loop-one : goal.invariant-loop-one
invariant-loop-one l =
    (l.count + length (said_words l.name (map saying_of (drop l.one-index l.said)))
    ≡ length (said_words l.name (map saying_of l.said)))
    × (l.count ≤ l.one-index)
