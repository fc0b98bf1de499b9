use Rattle.std.proofs.Common.{◌≡◌, drop, map}
use Rattle.words_sayings.specs.Steps.{table_of}
use Rattle.words_sayings.specs.Words.{flags_said, saying_of}
use Rattle.words_sayings.proofs.InTurn.{before_all}
use Rattle.words_sayings.proofs.saying.push_flags.Given as goal

abbrev pub invariant-loop-letter : goal.invariant-loop-letter
invariant-loop-letter l =
    before_all (map saying_of l.said.items) (flags_said (table_of l.rows) (drop l.letter-index l.letters))
    ≡ before_all (map saying_of l.fn.said.items) (flags_said (table_of l.rows) l.letters)
