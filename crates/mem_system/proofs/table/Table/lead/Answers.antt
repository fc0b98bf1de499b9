use Rattle.mem_system.proofs.Paths.{streams_stay}
use Rattle.mem_system.proofs.table.Table.lead.Goals as goal

pub invariant_of-self-clause-streams : goal.invariant_of-self-clause-streams
invariant_of-self-clause-streams c = streams_stay _ _ c.push.ensures.others c.args.self.now.streams
