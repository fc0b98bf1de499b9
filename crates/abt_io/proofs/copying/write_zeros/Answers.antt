use Rattle.std.proofs.Common.{arith, ◌∙◌, ◌≡◌, ◌+◌, ap, refl, length, replicate, length-append, ℕ}
use Rattle.std.proofs.lemmas.List.{length-replicate}
use Rattle.abt_io.proofs.Copied.{zeros_more, zeros_stay}
use Rattle.abt_io.proofs.copying.write_zeros.Goals as goal

pub returns-in-Err-clause-front : goal.returns-in-Err-clause-front
returns-in-Err-clause-front g c =
    let i = c.loop-at.invariant in
    zeros_stay _ _ _ c.loop-at.at c.args.n i.written (rw c.in-Err.is at c.write_zeros.ensures.wrote.written) i.within
    i.long

pub loop-at-preserved : goal.loop-at-preserved
loop-at-preserved g c =
    let e = c.in-Ok.ensures.wrote in
    let i = c.loop-at.invariant in
    let some = c.in-Ok.some in
    let written = g.O.Output.written in
    let longer : length (written c.write_zeros.new.self) ≡ length (written c.loop-at.output) + some =
    omega (
      arith,
      ap length e.written,
      length-append (written c.loop-at.output) (replicate some 0),
      length-replicate {A = ℕ} some 0,
    ) in
    record {
      within = omega arith;
      long = omega arith;
      written = zeros_more _ _ _ (replicate some 0) c.loop-at.at some i.written e.written refl;
      write_frame = e.frame ∙ i.write_frame;
      write_faults = omega arith;
      full_faults = omega arith;
      writes = omega arith;
      turns = omega arith;
      steps = omega arith;
      greatest = omega arith;
    }
