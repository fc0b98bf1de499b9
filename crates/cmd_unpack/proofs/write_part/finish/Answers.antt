use Rattle.std.proofs.Common.{false, true}
use Rattle.sys_disk.specs.Counts.{added, writes}
use Rattle.sys_refusals.proofs.Blames.{told_of_input}
use Rattle.cmd_common_boot.proofs.Sides.{tells_err, tells_host}
use Rattle.cmd_unpack.proofs.write_part.finish.Goals as goal

pub returns-in-Err-clause-told_of : goal.returns-in-Err-clause-told_of
returns-in-Err-clause-told_of g c =
    let tells = tells_err _ c.in-Err.refusal.fault c.in-Err.refusal.about.place _ _ c.in-Err.ensures.told
    c.in-Err.ensures.told_of (λ done. let host = c.in-Err.ensures.host done in (host.0, host.1)) in
    told_of_input _ _ _ _ _ c.reading-sides.ensures.place tells

pub returns-in-Err-line_beside-clause-told_of : goal.returns-in-Err-line_beside-clause-told_of
returns-in-Err-line_beside-clause-told_of g c =
    tells_host _ _ _ _ _ c.into.ensures

pub returns-in-Err-clause-closed : goal.returns-in-Err-clause-closed
returns-in-Err-clause-closed g c = λ t.
    let ends = c.in-Err.ensures.closed t in
    (false, added ends.more (writes (g.D.Onto.Output.write_faults c.args.onto)), ends.closed)

pub returns-in-Ok-line_beside-clause-closed : goal.returns-in-Ok-line_beside-clause-closed
returns-in-Ok-line_beside-clause-closed g c = λ t.
    (true, writes (g.D.Onto.Output.write_faults c.args.onto), c.in-Ok.ensures.clean t)

pub returns-in-Err-line_beside-clause-closed : goal.returns-in-Err-line_beside-clause-closed
returns-in-Err-line_beside-clause-closed g c = λ t.
    (true, writes (g.D.Onto.Output.write_faults c.args.onto), c.in-Ok.ensures.clean t)
