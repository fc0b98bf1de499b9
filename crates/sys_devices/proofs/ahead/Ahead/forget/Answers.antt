use Rattle.sys_devices.proofs.ahead.Ahead.forget.Goals as goal

pub returns : goal.returns
returns c = λ content. record { one = c.forget.ensures content; other = c.forget-2.ensures content }
