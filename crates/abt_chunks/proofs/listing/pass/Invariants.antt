use Rattle.std.proofs.Common.{length, ◌-◌, ◌≡◌, ◌≤◌, ◌+◌, ◌*◌, drop, max, false}
use Rattle.std.specs.Prelude.{IsTrue}
use Rattle.abt_chunks.specs.declared.walk.Phase.TheVariants as phases
use Rattle.abt_chunks.specs.Turns.{todo}
use Rattle.abt_chunks.specs.ListingAhead.{at_end, with_begun}
use Rattle.abt_chunks.proofs.listing.pass.Given as goal

abbrev pub invariant-steps : goal.invariant-steps
invariant-steps g l =
    let got = g.I.Input.given in
    let remaining = g.I.Input.remaining in
    record {
      read : got l.fn.input ≤ got l.input;
      present : IsTrue g.I.Input.models → got l.input - got l.fn.input ≤ length (remaining l.fn.input);
      rest : IsTrue g.I.Input.models → remaining l.input ≡ drop (got l.input - got l.fn.input) (remaining l.fn.input);
      same : IsTrue g.I.Input.models
          → with_begun l.fn.walk (remaining l.fn.input) ≡ with_begun l.walk (remaining l.input);
      body : l.walk.phase ≡ phases.Body;
      index : l.walk.index ≡ l.fn.walk.index;
      frame : g.I.Input.read_frame l.input ≡ g.I.Input.read_frame l.fn.input;
      header : l.walk.header ≡ l.fn.walk.header;
      faults : g.I.Input.read_faults l.input ≡ g.I.Input.read_faults l.fn.input;
      reads : g.I.Input.reads l.input + 2 * got l.fn.input ≤ g.I.Input.reads l.fn.input + 2 * got l.input + 1;
      reads_open : at_end l.walk ≡ false
          → g.I.Input.reads l.input + 2 * got l.fn.input ≤ g.I.Input.reads l.fn.input + 2 * got l.input;
      turns : l.m.turns.number + 3 * got l.fn.input ≤ l.fn.m.turns.number + 3 * got l.input + 2;
      turns_open : at_end l.walk ≡ false
          → l.m.turns.number + 3 * got l.fn.input ≤ l.fn.m.turns.number + 3 * got l.input;
      steps : got l.input + 65536 * l.fn.m.steps.number ≤ got l.fn.input + 65536 * l.m.steps.number;
      greatest : l.m.greatest.number ≤ max l.fn.m.greatest.number 65536;
    }

abbrev pub decreases-steps : goal.decreases-steps
decreases-steps g l = todo l.walk
