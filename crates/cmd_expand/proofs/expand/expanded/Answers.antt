use Rattle.std.proofs.Common.{refl}
use Rattle.cmd_expand.proofs.Files.{of_rising}
use Rattle.cmd_expand.proofs.expand.expanded.Goals as goal

pub returns-in-Err-clause-blames : goal.returns-in-Err-clause-blames
returns-in-Err-clause-blames g c =
    of_rising c.in-Err.fault _ _ _ _ _ refl c.in-Err.ensures.blame.cause
    c.in-Err.ensures.blame.clean

pub returns-in-Ok-clause-begun : goal.returns-in-Ok-clause-begun
returns-in-Ok-clause-begun g c = λ t. record { begun = c.expand.ensures.begun t; least = c.expand.ensures.least t }

pub returns-in-Err-clause-begun : goal.returns-in-Err-clause-begun
returns-in-Err-clause-begun g c = λ t. record { begun = c.expand.ensures.begun t; least = c.expand.ensures.least t }
