use Rattle.std.proofs.Common.{◌+◌, List, sym, subst, take}
use Rattle.std.specs.List.{AllZip}
use Rattle.words_orders.specs.Asked.{IsGiven}
use Rattle.words_orders.specs.Table.{option_rows}
use Rattle.words_sayings.specs.Rows.{shape_of}
use Rattle.words_orders.specs.declared.order.Given.{Given}
use Rattle.words_orders.proofs.Filling.{given_more}
use Rattle.words_orders.proofs.reading.all_given.Goals as goal

pub loop-row-preserved : goal.loop-row-preserved
loop-row-preserved c =
    let all = c.args.answers.now.all.items in
    subst (λ l. AllZip (IsGiven all) (take (c.loop-row.row-index + 1) option_rows) l)
    (sym {A = List Given} c.in_ok-push.ensures.items)
    (given_more (IsGiven all) shape_of c.options-row-items.result.now option_rows c.loop-row.row-index _
    c.loop-row.given.items c.given.result c.options-row-items.ensures c.loop-row-test.true c.loop-row.invariant
    c.given.ensures)
