use Rattle.abt_pieces.proofs.Planning.{planned_begin}
use Rattle.abt_pieces.proofs.plan.Planner.begin.Goals as goal

pub returns-clause-planned : goal.returns-clause-planned
returns-clause-planned c = λ b l within. rw c.begin.ensures (planned_begin b l c.args.from within)
