use Rattle.cmd_flash.proofs.Causes.{unflashed}
use Rattle.cmd_flash.proofs.flash.flashed.Goals as goal

pub returns-in-Ok-clause-clean : goal.returns-in-Ok-clause-clean
returns-in-Ok-clause-clean g c =
    c.in-Ok.ensures.cause

pub returns-in-Err-clause-lays : goal.returns-in-Err-clause-lays
returns-in-Err-clause-lays g c = λ t u.
    let e = c.in-Err.ensures in
    let kept = e.seen t u in
    unflashed c.in-Err.fault _ _ _ _ _ _ _ _ _ _ _ _ (g.met.P.Source.sized c.args.onto.now u) (e.flashes t)
    (e.holds t u)
    (record { long = kept.size; kept = kept.bytes }) e.cause

pub returns-in-Ok-clause-same : goal.returns-in-Ok-clause-same
returns-in-Ok-clause-same g c = λ t u. (c.in-Ok.ensures.seen t u).same

pub returns-in-Err-clause-same : goal.returns-in-Err-clause-same
returns-in-Err-clause-same g c = λ t u. (c.in-Err.ensures.seen t u).same
