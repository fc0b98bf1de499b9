use Rattle.words_tools.proofs.Standing.{rows_last}
use Rattle.words_tools.specs.Fragments.{fragment_rows}
use Rattle.words_tools.proofs.fragments.row_named.Goals as goal

pub returns-then-is_name_of : goal.returns-then-is_name_of
returns-then-is_name_of c = (
  c.is_name_of.ensures c.if-is_name_of.true,
  rows_last c.fragment_rows-row-items.result.now fragment_rows c.fragment_rows-row-items.ensures c.loop-row.row-index
      _ c.loop-row-test.true,
)
