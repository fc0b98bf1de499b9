use Rattle.std.proofs.Common.{◌∙◌}
use Rattle.sys_devices.proofs.Places.{holds_on}
use Rattle.sys_devices.proofs.gathering.GatheringSpool.settle.Goals as goal

pub invariant_of-self-clause-whole : goal.invariant_of-self-clause-whole
invariant_of-self-clause-whole g c = c.settle.ensures.flushes.whole ∙ c.args.self.now.whole

pub invariant_of-self-clause-holds : goal.invariant_of-self-clause-holds
invariant_of-self-clause-holds g c = λ models.
    holds_on _ _ _ c.settle.ensures.flushes.grows (c.args.self.now.holds models)
