use Rattle.std.proofs.Common.{◌≡◌, ◌++◌, drop, map}
use Rattle.words_sayings.specs.Words.{said_words, saying_of}
use Rattle.words_sayings.proofs.saying.push_said.Given as goal

abbrev pub invariant-loop-one : goal.invariant-loop-one
invariant-loop-one l =
    map (λ s. s.now) l.words.items ++ said_words l.name (map saying_of (drop l.one-index l.said))
    ≡ map (λ s. s.now) l.fn.words.items ++ said_words l.name (map saying_of l.said)
