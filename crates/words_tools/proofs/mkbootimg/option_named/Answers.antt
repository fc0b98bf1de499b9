use Rattle.std.proofs.Common.{◌∙◌, sym}
use Rattle.std.proofs.lemmas.Slice.Eq.{bytes_eq-Decides}
use Rattle.words_orders.specs.Table.{option_rows}
use Rattle.words_tools.proofs.Standing.{rows_last}
use Rattle.words_tools.proofs.mkbootimg.option_named.Goals as goal

pub returns-then-eq : goal.returns-then-eq
returns-then-eq c = (
  (bytes_eq-Decides _ c.args.name.now).0 (sym c.eq.ensures ∙ c.if-eq.true),
  rows_last c.options-row-items.result.now option_rows c.options-row-items.ensures c.loop-row.row-index _
      c.loop-row-test.true,
)
