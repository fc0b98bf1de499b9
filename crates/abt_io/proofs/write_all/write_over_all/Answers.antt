use Rattle.std.proofs.Common.{arith, length, ◌∙◌, ◌≡◌, ◌≤◌, ◌+◌, ◌-◌, take, drop, ap}
use Rattle.abt_io.proofs.Parts.{length_rest}
use Rattle.abt_io.proofs.Moments.{put_on}
use Rattle.abt_io.proofs.Overs.{length_put, before_on}
use Rattle.std.proofs.lemmas.List.{length-take-le}
use Rattle.abt_io.proofs.write_all.write_over_all.Goals as goal

pub loop-done-preserved : goal.loop-done-preserved
loop-done-preserved g c =
    let e = c.in-Ok.ensures.wrote in
    let i = c.loop-done.invariant in
    let left = length_rest c.loop-done.done c.args.bytes.now in
    let room : c.in-Ok.n ≤ length c.args.bytes.now - c.loop-done.done = omega arith in
    let part = take (length c.args.bytes.now - c.loop-done.done) (drop c.loop-done.done c.args.bytes.now) in
    let t : length (take c.in-Ok.n part) ≡ c.in-Ok.n = length-take-le c.in-Ok.n part e.within in
    let there : c.args.at + c.loop-done.done + length (take c.in-Ok.n part)
    ≤ length (g.O.Output.written c.loop-done.output) = omega arith in
    record {
      within = omega arith;
      written = put_on _ _ _ _ c.args.at c.loop-done.done c.in-Ok.n i.within (omega arith) i.written e.written;
      long = ap length e.written
          ∙ length_put (g.O.Output.written c.loop-done.output) (c.args.at + c.loop-done.done) (take c.in-Ok.n part)
          there ∙ i.long;
      before = before_on (g.O.Output.written c.loop-done.output) _ c.args.at (c.args.at + c.loop-done.done)
          (take c.in-Ok.n part) (omega arith) there e.written ∙ i.before;
      frame = e.frame ∙ i.frame;
      clean = e.clean ∙ i.clean;
      full_faults = e.full_faults ∙ i.full_faults;
      calls = omega arith;
      turns = omega arith;
      steps = omega arith;
      greatest = omega arith;
    }
