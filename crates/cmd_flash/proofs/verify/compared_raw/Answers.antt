use Rattle.std.proofs.Common.{arith}
use Rattle.cmd_flash.proofs.Causes.{not_there_raw}
use Rattle.cmd_flash.proofs.verify.compared_raw.Goals as goal

pub returns-in-Ok-clause-clean : goal.returns-in-Ok-clause-clean
returns-in-Ok-clause-clean g c =
    let one = c.in-Ok.ensures.cause.0 in
    let two = c.in-Ok.ensures.cause.1 in
    omega (arith, one, two)

pub returns-in-Err-clause-finds : goal.returns-in-Err-clause-finds
returns-in-Err-clause-finds g c = λ t u.
    not_there_raw _ _ c.in-Err.fault _ _ _ _ _ _ _ _ _ t u (c.in-Err.ensures.verifies t) c.in-Err.ensures.sized
    c.in-Err.ensures.cause
