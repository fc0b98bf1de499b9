use Rattle.std.proofs.Common.{map}
use Rattle.words_tools.proofs.Rejecting.{no_tool}
use Rattle.words_tools.proofs.orders.orders_of.Goals as goal

pub returns-in-Some-clause-none : goal.returns-in-Some-clause-none
returns-in-Some-clause-none g c = λ _.
    no_tool c.args.tool (map g.S.AsStr.text c.args.words.now) c.args.said.now c.in-Some.ensures

pub returns-in-Ok-None-clause-none : goal.returns-in-Ok-None-clause-none
returns-in-Ok-None-clause-none g c = λ _. (rw c.in-Ok-None.field-0-is at c.in-Ok-None.ensures.none) tt
