use Rattle.std.proofs.Common.{◌∙◌, arith}
use Rattle.sys_finish.proofs.Sends.{given_on}
use Rattle.sys_finish.proofs.sink.Sink.put_all.Goals as goal

pub loop-done-preserved : goal.loop-done-preserved
loop-done-preserved g c =
    let i = c.loop-done.invariant in
    let e = c.in-Ok.ensures in
    record {
      within = omega (arith, e.bound, i.within);
      given = given_on _ _ _ c.args.bytes.now c.loop-done.done c.in-Ok.n i.given e.taken;
      still = e.still ∙ i.still;
    }
