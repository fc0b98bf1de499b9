use Rattle.abt_pieces.proofs.Planning.{outlined}
use Rattle.abt_pieces.proofs.outline.outlined.Goals as goal

pub returns-clause-exact : goal.returns-clause-exact
returns-clause-exact c = λ l long good plan.
    let e = c.whole-contents.ensures in
    let x = outlined c.args.size l c.args.planner.now good plan c.whole-contents.result (rw (← long) at e.more)
    (rw (← long) at e.same) in
    record { is = record { order = plan.order; within = plan.within; held = x.1; long = x.2 }; count = x.0 }
