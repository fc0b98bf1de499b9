use Rattle.std.proofs.Common.{◌≡◌, drop, map}
use Rattle.std.specs.Prelude.{option_map}
use Rattle.words_sayings.specs.Words.{last_word, said_words, saying_of}
use Rattle.words_sayings.proofs.ReadSteps.{later_or}
use Rattle.words_sayings.proofs.saying.last_said.Given as goal

abbrev pub invariant-loop-one : goal.invariant-loop-one
invariant-loop-one l =
    later_or (last_word (said_words l.name (map saying_of (drop l.one-index l.said)))) (option_map (λ s. s.now) l.last)
    ≡ last_word (said_words l.name (map saying_of l.said))
