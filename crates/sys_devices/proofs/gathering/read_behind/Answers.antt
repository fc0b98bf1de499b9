use Rattle.std.proofs.Common.{sym}
use Rattle.sys_devices.proofs.Places.{holds_on, holds_same}
use Rattle.sys_devices.proofs.gathering.read_behind.Goals as goal

pub returns-in-Err-clause-holds : goal.returns-in-Err-clause-holds
returns-in-Err-clause-holds g c = λ models. holds_on _ _ _ c.settle.ensures.flushes.grows (c.requires models)

pub returns-then-is_changed-clause-holds : goal.returns-then-is_changed-clause-holds
returns-then-is_changed-clause-holds g c = λ models. holds_on _ _ _ c.settle.ensures.flushes.grows (c.requires models)

pub read_ahead-requires : goal.read_ahead-requires
read_ahead-requires g c = λ models.
    holds_same _ _ _ (sym (c.in-Ok.ensures.exact models))
    (holds_on _ _ _ c.settle.ensures.flushes.grows (c.requires models))
