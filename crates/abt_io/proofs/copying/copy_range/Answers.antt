use Rattle.std.proofs.Common.{arith, ◌∙◌, ◌≡◌, ◌-◌, ◌+◌, ap, length}
use Rattle.abt_io.proofs.Copied.{copied_more, as_front_of, grown_more}
use Rattle.abt_io.proofs.copying.copy_range.Goals as goal

pub returns-in_err-got-clause-front : goal.returns-in_err-got-clause-front
returns-in_err-got-clause-front g c models =
    let e = c.in_err-got.ensures in
    let i = c.loop-at.invariant in
    let at = c.loop-at.at in
    let written = g.O.Output.written in
    let w0 = written c.args.output.now in
    let w1 = written c.loop-at.output in
    let w2 = written c.copy_step.new.output in
    let d = length w2 - length w1 in
    let long : length w2 - length w0 ≡ at + d = omega arith in
    as_front_of w0 w2 _ (at + d) c.args.n (copied_more w0 w1 w2 _ _ c.args.from at d (i.content models)
    (i.written models) (e.front models)) long (omega arith)

pub loop-at-preserved : goal.loop-at-preserved
loop-at-preserved g c =
    let e = c.in_ok-got.ensures in
    let i = c.loop-at.invariant in
    let at = c.loop-at.at in
    let got = c.in_ok-got.got in
    let written = g.O.Output.written in
    let w1 = written c.loop-at.output in
    let w2 = written c.copy_step.new.output in
    let more : length w2 - length w1 ≡ got = omega arith in
    record {
      within = omega arith;
      given = omega arith;
      long = omega arith;
      present = λ models. omega (arith, e.present models, i.present models, ap length (i.content models));
      content = λ models. e.reads.content models ∙ i.content models;
      size = λ models. e.reads.size models ∙ i.size models;
      written = λ models. copied_more _ w1 w2 _ _ c.args.from at got (i.content models) (i.written models)
          (rw more at (e.front models));
      grown = grown_more _ w1 w2 i.grown e.grown (omega arith);
      frame = e.reads.frame ∙ i.frame;
      write_frame = e.writes.frame ∙ i.write_frame;
      read_faults = omega arith;
      write_faults = omega arith;
      full_faults = omega arith;
      reads = omega arith;
      writes = omega arith;
      turns = omega arith;
      steps = omega arith;
      greatest = omega arith;
    }
