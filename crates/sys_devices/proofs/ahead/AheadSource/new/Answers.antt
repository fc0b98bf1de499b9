use Rattle.sys_devices.proofs.ahead.AheadSource.new.Goals as goal

pub invariant_of-result : goal.invariant_of-result
invariant_of-result g c = record { held = λ models. tt; keeps = λ models. c.new-in-Ok.ensures _ }
