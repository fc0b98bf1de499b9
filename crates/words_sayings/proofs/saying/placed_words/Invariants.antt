use Rattle.std.proofs.Common.{◌≡◌, ◌++◌, drop, map}
use Rattle.words_sayings.specs.Words.{saying_of, words_by_place}
use Rattle.words_sayings.proofs.saying.placed_words.Given as goal

abbrev pub invariant-loop-one : goal.invariant-loop-one
invariant-loop-one l =
    map (λ s. s.now) l.words.items ++ words_by_place (map saying_of (drop l.one-index l.said))
    ≡ words_by_place (map saying_of l.said)
