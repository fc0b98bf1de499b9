use Rattle.std.proofs.Common.{refl}
use Rattle.mem_system.proofs.Paths.{may_lead, leads_there}
use Rattle.mem_system.proofs.table.push.Goals as goal

pub returns-clause-others : goal.returns-clause-others
returns-clause-others c = may_lead _ _ _ c.in-Ok.ensures.items

pub returns-clause-there : goal.returns-clause-there
returns-clause-there c = λ none. leads_there _ _ _ _ c.in-Ok.ensures.items none refl
