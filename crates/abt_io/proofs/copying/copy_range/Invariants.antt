use Rattle.std.proofs.Common.{length, ◌-◌, ◌≡◌, ◌≤◌, ◌+◌, ◌*◌, ◌++◌, take, drop, max}
use Rattle.std.specs.Prelude.{IsTrue}
use Rattle.abt_io.proofs.copying.copy_range.Given as goal

abbrev pub invariant-loop-at : goal.invariant-loop-at
invariant-loop-at g l =
    let told = g.S.Source.content in
    let given = g.S.Source.given in
    let written = g.O.Output.written in
    record {
      within : l.at ≤ l.n;
      given : given l.source ≡ given l.fn.source + l.at;
      long : length (written l.output) ≡ length (written l.fn.output) + l.at;
      present : IsTrue g.S.Source.models → l.at ≤ length (told l.fn.source) - l.from;
      content : IsTrue g.S.Source.models → told l.source ≡ told l.fn.source;
      size : IsTrue g.S.Source.models → g.S.Source.size l.source ≡ g.S.Source.size l.fn.source;
      grown : take (length (written l.fn.output)) (written l.output) ≡ written l.fn.output;
      written : IsTrue g.S.Source.models → written l.output ≡ written l.fn.output
          ++ take l.at (drop l.from (told l.fn.source));
      frame : g.S.Source.read_frame l.source ≡ g.S.Source.read_frame l.fn.source;
      write_frame : g.O.Output.write_frame l.output ≡ g.O.Output.write_frame l.fn.output;
      read_faults : g.S.Source.read_faults l.source ≡ g.S.Source.read_faults l.fn.source;
      write_faults : g.O.Output.write_faults l.output ≡ g.O.Output.write_faults l.fn.output;
      full_faults : g.O.Output.full_faults l.output ≡ g.O.Output.full_faults l.fn.output;
      reads : g.S.Source.reads l.source ≤ g.S.Source.reads l.fn.source + l.at;
      writes : g.O.Output.writes l.output ≤ g.O.Output.writes l.fn.output + 2 * l.at;
      turns : l.m.turns.number ≤ l.fn.m.turns.number + 3 * l.at;
      steps : l.at + 65536 * l.fn.m.steps.number ≤ 65536 * l.m.steps.number;
      greatest : l.m.greatest.number ≤ max l.fn.m.greatest.number 65536;
    }

abbrev pub decreases-loop-at : goal.decreases-loop-at
decreases-loop-at g l = l.n - l.at
