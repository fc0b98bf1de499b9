use Rattle.std.proofs.Common.{◌≡◌, drop, map}
use Rattle.words_sayings.specs.Steps.{before_of, table_of}
use Rattle.words_sayings.specs.Words.{says, says_after, saying_of}
use Rattle.words_sayings.proofs.InTurn.{before_all}
use Rattle.words_sayings.proofs.saying.said_by.Given as goal

abbrev pub invariant-loop-word : goal.invariant-loop-word
invariant-loop-word g l =
    before_all (map saying_of l.said.items)
    (says_after l.is_short (table_of l.rows) (before_of l.state) (map g.S.AsStr.text (drop l.word-index l.words)))
    ≡ says l.is_short (table_of l.rows) (map g.S.AsStr.text l.words)
