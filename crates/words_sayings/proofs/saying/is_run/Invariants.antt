use Rattle.std.proofs.Common.{◌≡◌, map, length}
use Rattle.std.specs.Prelude.{false}
use Rattle.words_sayings.specs.Words.{is_run}
use Rattle.words_sayings.proofs.saying.is_run.Given as goal

abbrev pub invariant-loop-word : goal.invariant-loop-word
invariant-loop-word g l =
    is_run l.is_ended (map g.S.AsStr.text l.left) ≡ is_run false (map g.S.AsStr.text l.words)

abbrev pub decreases-loop-word : goal.decreases-loop-word
decreases-loop-word g l = length l.left
