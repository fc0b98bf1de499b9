use Rattle.std.proofs.Common.{◌≡◌, ◌+◌, drop, map}
use Rattle.std.specs.List.{position_or_len}
use Rattle.words_orders.specs.Asked.{is_command_word}
use Rattle.words_orders.proofs.reading.command_place.Given as goal

abbrev pub invariant-loop-i : goal.invariant-loop-i
invariant-loop-i g l =
    l.i + position_or_len is_command_word (map g.S.AsStr.text (drop l.i l.words))
    ≡ position_or_len is_command_word (map g.S.AsStr.text l.words)
