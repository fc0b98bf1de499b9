use Rattle.std.proofs.Common.{length, ◌-◌, ◌≡◌, ◌≤◌, ◌+◌, drop}
use Rattle.std.specs.Prelude.{IsTrue}
use Rattle.abt_io.proofs.passing.pass_full.Given as goal

abbrev pub invariant-loop-at : goal.invariant-loop-at
invariant-loop-at g l =
    let given = g.I.Input.given in
    let remaining = g.I.Input.remaining in
    record {
      within : l.at ≤ length l.room;
      given : given l.input ≡ given l.fn.input + l.at;
      present : IsTrue g.I.Input.models → l.at ≤ length (remaining l.fn.input);
      rest : IsTrue g.I.Input.models → remaining l.input ≡ drop l.at (remaining l.fn.input);
      none : length l.room ≡ 0 → l.input ≡ l.fn.input;
      frame : g.I.Input.read_frame l.input ≡ g.I.Input.read_frame l.fn.input;
      faults : g.I.Input.read_faults l.input ≡ g.I.Input.read_faults l.fn.input;
      reads : g.I.Input.reads l.input ≤ g.I.Input.reads l.fn.input + l.at;
      turns : l.m.turns.number ≤ l.fn.m.turns.number + l.at;
      steps : l.m.steps.number ≡ l.fn.m.steps.number;
      greatest : l.m.greatest.number ≡ l.fn.m.greatest.number;
    }

abbrev pub decreases-loop-at : goal.decreases-loop-at
decreases-loop-at g l = length l.room - l.at
