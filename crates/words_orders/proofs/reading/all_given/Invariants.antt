use Rattle.std.proofs.Common.{take}
use Rattle.std.specs.List.{AllZip}
use Rattle.words_orders.specs.Asked.{IsGiven}
use Rattle.words_orders.specs.Table.{option_rows}
use Rattle.words_orders.proofs.reading.all_given.Given as goal

abbrev pub invariant-loop-row : goal.invariant-loop-row
invariant-loop-row l = AllZip (IsGiven l.answers.all.items) (take l.row-index option_rows) l.given.items
