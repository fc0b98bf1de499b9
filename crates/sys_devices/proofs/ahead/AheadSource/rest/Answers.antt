use Rattle.sys_devices.proofs.ahead.AheadSource.rest.Goals as goal

pub invariant_of-self : goal.invariant_of-self
invariant_of-self g c = record { held = λ models. tt; keeps = λ models. c.new.ensures _ }
