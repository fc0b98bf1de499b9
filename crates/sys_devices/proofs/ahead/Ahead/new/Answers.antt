use Rattle.sys_devices.proofs.ahead.Ahead.new.Goals as goal

pub returns-in-Ok-Ok : goal.returns-in-Ok-Ok
returns-in-Ok-Ok c = λ content. record { one = c.in-Ok-Ok.ensures content; other = c.in-Ok-Ok.ensures' content }

pub returns-in_default : goal.returns-in_default
returns-in_default c = λ content. tt
