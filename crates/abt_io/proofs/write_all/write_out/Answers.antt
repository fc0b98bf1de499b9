use Rattle.std.proofs.Common.{arith, ◌∙◌, ◌≡◌, ◌+◌, ap, length, length-append, take, drop, ◌-◌}
use Rattle.std.proofs.lemmas.List.{length-take-le}
use Rattle.abt_io.proofs.Parts.{written_on, length_rest}
use Rattle.abt_io.proofs.write_all.write_out.Goals as goal

pub loop-at-preserved : goal.loop-at-preserved
loop-at-preserved g c =
    let e = c.in-Ok.ensures.wrote in
    let bytes = c.args.bytes.now in
    let rest = take (length bytes - c.loop-at.at) (drop c.loop-at.at bytes) in
    let left = length_rest c.loop-at.at bytes in
    let longer : length (g.O.Output.written c.write.new.self) ≡ length (g.O.Output.written c.loop-at.output)
    + c.in-Ok.n =
    omega (
      arith,
      ap length e.written,
      length-append (g.O.Output.written c.loop-at.output) (take c.in-Ok.n rest),
      length-take-le c.in-Ok.n rest e.within,
    ) in
    record {
      within = omega arith;
      long = omega arith;
      written = written_on _ _ _ _ c.loop-at.at c.in-Ok.n c.loop-at.invariant.written e.written;
      frame = e.frame ∙ c.loop-at.invariant.frame;
      faults = omega arith;
      full_faults = omega arith;
      calls = omega arith;
      turns = omega arith;
      steps = omega arith;
      greatest = omega arith;
    }
