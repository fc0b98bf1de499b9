use Rattle.std.proofs.Common.{◌≡◌, drop, map}
use Rattle.std.specs.Prelude.{bytes_eq}
use Rattle.std.specs.List.{list_any}
use Rattle.words_orders.proofs.answers.is_among.Given as goal

abbrev pub invariant-loop-name : goal.invariant-loop-name
invariant-loop-name l =
    list_any (bytes_eq l.word) (map (λ s. s.now) (drop l.name-index l.names))
    ≡ list_any (bytes_eq l.word) (map (λ s. s.now) l.names)
