use Rattle.std.proofs.Common.{arith}
use Rattle.cmd_flash.proofs.Causes.{not_there}
use Rattle.cmd_flash.proofs.verify.compared.Goals as goal

pub returns-in-Ok-clause-finds : goal.returns-in-Ok-clause-finds
returns-in-Ok-clause-finds g c = λ t u.
    let w = c.in-Ok.ensures.verifies t in
    record {
      header = w.header;
      chunks = w.chunks;
      rest = _;
      spelled = w.spelled;
      stands = w.stands u;
      blocks = w.blocks;
    }

pub returns-in-Ok-clause-clean : goal.returns-in-Ok-clause-clean
returns-in-Ok-clause-clean g c =
    let one = c.in-Ok.ensures.cause.0 in
    let two = c.in-Ok.ensures.cause.1 in
    omega (arith, one, two)

pub returns-in-Err-clause-finds : goal.returns-in-Err-clause-finds
returns-in-Err-clause-finds g c = λ t u.
    not_there _ c.in-Err.fault _ _ _ _ _ _ _ _ _ u (c.in-Err.ensures.verifies t) c.in-Err.ensures.cause
