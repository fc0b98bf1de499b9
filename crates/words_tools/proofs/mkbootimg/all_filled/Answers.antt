use Rattle.std.proofs.Common.{◌+◌, List, sym, subst, take}
use Rattle.std.specs.List.{AllZip}
use Rattle.words_orders.specs.declared.order.Given.{Given}
use Rattle.words_orders.proofs.Filling.{given_more}
use Rattle.words_tools.specs.Mkbootimg.{IsOptionOf, filler_of, fillers}
use Rattle.words_tools.proofs.mkbootimg.all_filled.Goals as goal

pub loop-filler-preserved : goal.loop-filler-preserved
loop-filler-preserved c =
    let R = IsOptionOf c.args.answers.now.all.items c.args.image in
    subst (λ l. AllZip R (take (c.loop-filler.filler-index + 1) fillers) l)
    (sym {A = List Given} c.in_ok-push.ensures.items)
    (given_more R filler_of c.all_fillers-filler-items.result.now fillers c.loop-filler.filler-index _
    c.loop-filler.given.items c.in-Some.filled c.all_fillers-filler-items.ensures c.loop-filler-test.true
    c.loop-filler.invariant c.in-Some.ensures)
