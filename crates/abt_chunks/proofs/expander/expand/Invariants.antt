use Rattle.std.proofs.Common.{length, ◌-◌, ◌≡◌, ◌≤◌, ◌+◌, ◌*◌, ◌++◌, List, ℕ, Ok, take}
use Rattle.std.specs.Prelude.{IsTrue}
use Rattle.abt_io.specs.Lent.{OnlyWrites}
use Rattle.abt_sparse.specs.Reading.{outcome}
use Rattle.abt_chunks.specs.Stepping.{WalksOn}
use Rattle.abt_chunks.specs.Ahead.{finish, seen}
use Rattle.abt_chunks.specs.Turns.{todo}
use Rattle.abt_chunks.specs.Parts.{ahead}
use Rattle.abt_chunks.specs.Expanding.{IsGoing}
use Rattle.abt_chunks.specs.Whole.{AllNeeded}
use Rattle.abt_chunks.proofs.Short.{IsNear}
use Rattle.abt_chunks.proofs.expander.expand.Given as goal

abbrev pub invariant-steps : goal.invariant-steps
invariant-steps g l =
    let i = g.I.Input in
    let o = g.O.Output in
    let got = i.given in
    let written = o.written in
    record {
      walks : WalksOn i 65580 l.fn.input l.input l.fn.m l.m;
      writes : OnlyWrites {X = Unit {0}} {E = Unit {0}} (Ok tt) 0 o l.fn.output l.output;
      told : IsTrue i.models → (t : List ℕ) → finish (written l.fn.output)
          (seen (outcome (take (got l.input - got l.fn.input) (i.remaining l.fn.input) ++ t)))
          ≡ finish (written l.output) (ahead l.machine.walk t);
      needed : IsTrue i.models → AllNeeded (i.remaining l.fn.input) (got l.input - got l.fn.input);
      near : IsTrue i.models → IsNear (written l.fn.output) (written l.output) (i.remaining l.fn.input)
          (got l.input - got l.fn.input);
      going : IsGoing l.machine.walk.phase;
      read_faults : i.read_faults l.input ≡ i.read_faults l.fn.input;
      reads : i.reads l.input + 4 * got l.fn.input + 4 * length (written l.fn.output)
          ≤ i.reads l.fn.input + 4 * got l.input + 4 * length (written l.output);
      calls : o.writes l.output + 4 * got l.fn.input + 4 * length (written l.fn.output)
          ≤ o.writes l.fn.output + 4 * got l.input + 4 * length (written l.output);
      turns : l.m.turns.number + 8 * got l.fn.input + 8 * length (written l.fn.output)
          ≤ l.fn.m.turns.number + 8 * got l.input + 8 * length (written l.output);
    }

abbrev pub decreases-steps : goal.decreases-steps
decreases-steps g l = todo l.machine.walk
