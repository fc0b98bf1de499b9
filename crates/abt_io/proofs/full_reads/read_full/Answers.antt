use Rattle.std.proofs.Common.{arith, ap, ◌∙◌, length, length-drop}
use Rattle.abt_io.proofs.Parts.{length_rest, rest_more}
use Rattle.abt_io.proofs.Filled.{length_filled, filled}
use Rattle.abt_io.proofs.full_reads.read_full.Goals as goal

pub loop-at-preserved : goal.loop-at-preserved
loop-at-preserved g c =
    let e = c.in-Ok.ensures.passed in
    let i = c.loop-at.invariant in
    let at = c.loop-at.at in
    let long = c.read.auto.out ∙ length_rest at c.loop-at.out in
    let same = length_filled c.loop-at.out c.read.new.out at i.within long in
    record {
      within = omega arith;
      given = omega arith;
      present = λ models. omega (
        arith,
        e.present models,
        ap length (i.rest models),
        length-drop at (g.I.Input.remaining c.args.input.now),
      );
      bytes = λ models. filled c.loop-at.out c.read.new.out _ _ at c.in-Ok.n i.within e.within (i.bytes models)
          (i.rest models) (c.in-Ok.ensures.bytes models);
      rest = λ models. rest_more _ _ _ at _ _ (i.rest models) (e.rest models) (omega arith);
      none = λ z. absurd (omega arith);
      frame = e.frame ∙ i.frame;
      faults = omega arith;
      reads = omega arith;
      turns = omega arith;
      steps = omega arith;
      greatest = omega arith;
    }
