use Rattle.std.proofs.Common.{arith, ap, ◌∙◌, sym, length, drop, List, ℕ, ◌+◌}
use Rattle.std.proofs.lemmas.List.{drop-drop}
use Rattle.abt_io.proofs.Parts.{length_rest}
use Rattle.abt_io.proofs.Filled.{length_filled, filled}
use Rattle.abt_io.proofs.full_reads.read_full_at.Goals as goal

pub loop-done-preserved : goal.loop-done-preserved
loop-done-preserved g c =
    let e = c.in-Ok.ensures.has_read in
    let i = c.loop-done.invariant in
    let done = c.loop-done.done in
    let long = c.read_at.auto.out ∙ length_rest done c.loop-done.out in
    let same = length_filled c.loop-done.out c.read_at.new.out done i.within long in
    let told = g.S.Source.content c.args.source.now in
    record {
      within = omega arith;
      given = omega arith;
      present = λ models. omega (arith, e.present models, i.present models, ap length (i.content models));
      bytes = λ models. filled c.loop-done.out c.read_at.new.out
          (drop c.args.at told) _ done c.in-Ok.got i.within e.within (i.bytes models)
          (ap (λ (l : List ℕ). drop (c.args.at + done) l) (i.content models) ∙ sym (drop-drop done c.args.at told))
          (e.bytes models);
      content = λ models. e.content models ∙ i.content models;
      size = λ models. e.size models ∙ i.size models;
      none = λ z. absurd (omega arith);
      frame = e.frame ∙ i.frame;
      faults = omega arith;
      reads = omega arith;
      turns = omega arith;
      steps = omega arith;
      greatest = omega arith;
    }
