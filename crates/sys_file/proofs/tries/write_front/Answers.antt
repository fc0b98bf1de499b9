use Rattle.std.proofs.Common.{ap, ◌+◌, ◌-◌, length, take, drop, arith, length-drop}
use Rattle.std.proofs.lemmas.List.{length-take-le}
use Rattle.sys_file.proofs.Puts.{put_on}
use Rattle.sys_file.proofs.Fronts.{put_changes, changes_then, long_put}
use Rattle.sys_file.proofs.tries.write_front.Goals as goal

pub loop-done-preserved : goal.loop-done-preserved
loop-done-preserved g c =
    let i = c.loop-done.invariant in
    let e = c.in-Ok.ensures.writes in
    record {
      within = omega (arith, e.within, i.within);
      laid = λ models. record {
        written = put_on _ _ _ _ c.args.at c.loop-done.done c.in-Ok.n i.within (i.laid models).reaches
            (i.laid models).written (e.written models);
        reaches = (i.laid models).reaches;
      };
    }

pub returns-in-Err : goal.returns-in-Err
returns-in-Err g c =
    let i = c.loop-done.invariant in
    let done = c.loop-done.done in
    let bytes = c.args.bytes.now in
    let long = length-take-le done bytes i.within in
    let rest = length-take-le (length bytes - done) (drop done bytes) (omega (arith, length-drop done bytes)) in
    record {
      within = i.within;
      all = tt;
      written = λ models. tt;
      changes = λ models.
          let l = i.laid models in
          let m = c.in-Err.ensures.writes.marred models in
          changes_then _ _ _ c.args.at (c.args.at + done) _ _ (c.args.at + length bytes)
          (put_changes _ _ (take done bytes) c.args.at l.reaches l.written)
          record { before = m.before; long = m.long }
          (omega arith) (omega (arith, long, i.within)) (omega (arith, i.within, rest));
      reaches = λ models.
          let l = i.laid models in
          let m = c.in-Err.ensures.writes.marred models in
          omega (arith, m.least, ap length l.written, long_put _ (take done bytes) c.args.at l.reaches, long);
      least = λ models.
          let l = i.laid models in
          let m = c.in-Err.ensures.writes.marred models in
          omega (arith, m.least, ap length l.written, long_put _ (take done bytes) c.args.at l.reaches, long);
    }
