use Rattle.std.proofs.Common.{Ok, ◌-◌, ◌≡◌, ◌≤◌, ◌+◌, ◌*◌}
use Rattle.std.specs.Prelude.{IsTrue}
use Rattle.abt_io.specs.Lent.{OnlyReads}
use Rattle.abt_chunks.specs.Costs.{StepsWithin}
use Rattle.abt_chunks.specs.Taking.{ReadsOn, input_state}
use Rattle.abt_chunks.specs.Turns.{todo}
use Rattle.abt_chunks.specs.ListingAhead.{idle}
use Rattle.abt_verify.specs.Stepping.{IsComparing}
use Rattle.abt_verify.proofs.Come.{Come}
use Rattle.abt_verify.proofs.verifying.verify.Given as goal

abbrev pub invariant-steps : goal.invariant-steps
invariant-steps g l =
    let i = g.I.Input in
    let p = g.P.Source in
    let got = i.given in
    let seen = p.given in
    record {
      input : ReadsOn i.models (input_state i l.fn.input) (input_state i l.input);
      partition : OnlyReads {X = Unit {0}} {E = Unit {0}} (Ok tt) p l.fn.partition l.partition;
      compared : seen l.fn.partition ≤ seen l.partition;
      goes : IsComparing l.machine.stage l.machine.walk.phase;
      told : IsTrue i.models → Come p.models l.machine.walk (got l.input - got l.fn.input) (i.remaining l.fn.input)
          (p.content l.fn.partition) (seen l.fn.partition) (seen l.partition) l.machine.compared;
      read_faults : i.read_faults l.input ≡ i.read_faults l.fn.input;
      calls : i.reads l.input + p.reads l.partition + 2 * idle l.machine.walk + 8 * got l.fn.input
          + 8 * seen l.fn.partition ≤ i.reads l.fn.input + p.reads l.fn.partition + 8 * got l.input
          + 8 * seen l.partition;
      turns : l.m.turns.number + 2 * idle l.machine.walk + 8 * got l.fn.input + 8 * seen l.fn.partition
          ≤ l.fn.m.turns.number + 8 * got l.input + 8 * seen l.partition;
      steps : StepsWithin 65580 (got l.fn.input + seen l.fn.partition) (got l.input + seen l.partition) l.fn.m l.m;
    }

abbrev pub decreases-steps : goal.decreases-steps
decreases-steps g l = todo l.machine.walk
