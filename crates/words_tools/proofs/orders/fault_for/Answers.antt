use Rattle.words_tools.specs.Rejected.{hyphen}
use Rattle.words_tools.proofs.orders.fault_for.Goals as goal

pub returns-then-has_hyphens : goal.returns-then-has_hyphens
returns-then-has_hyphens g c = λ _. hyphen (c.has_hyphens.ensures c.if-has_hyphens.true)

pub returns-in-Ok-None : goal.returns-in-Ok-None
returns-in-Ok-None g c = λ _. (rw c.in-Ok-None.field-0-is at c.in-Ok-None.ensures.none) tt

pub returns : goal.returns
returns g c = λ is. c.in-Err.ensures.none (c.told_by.ensures is)
