use Rattle.std.proofs.Common.{length, ◌-◌, ◌≡◌, ◌≤◌, ◌+◌, take, drop}
use Rattle.std.specs.Prelude.{IsTrue}
use Rattle.abt_io.proofs.full_reads.read_full_at.Given as goal

abbrev pub invariant-loop-done : goal.invariant-loop-done
invariant-loop-done g l =
    let given = g.S.Source.given in
    let told = g.S.Source.content in
    record {
      within : l.done ≤ length l.out;
      given : given l.source ≡ given l.fn.source + l.done;
      present : IsTrue g.S.Source.models → l.done ≤ length (told l.fn.source) - l.at;
      bytes : IsTrue g.S.Source.models → take l.done l.out ≡ take l.done (drop l.at (told l.fn.source));
      content : IsTrue g.S.Source.models → told l.source ≡ told l.fn.source;
      size : IsTrue g.S.Source.models → g.S.Source.size l.source ≡ g.S.Source.size l.fn.source;
      none : length l.out ≡ 0 → l.source ≡ l.fn.source;
      frame : g.S.Source.read_frame l.source ≡ g.S.Source.read_frame l.fn.source;
      faults : g.S.Source.read_faults l.source ≡ g.S.Source.read_faults l.fn.source;
      reads : g.S.Source.reads l.source ≤ g.S.Source.reads l.fn.source + l.done;
      turns : l.m.turns.number ≤ l.fn.m.turns.number + l.done;
      steps : l.m.steps.number ≡ l.fn.m.steps.number;
      greatest : l.m.greatest.number ≡ l.fn.m.greatest.number;
    }

abbrev pub decreases-loop-done : goal.decreases-loop-done
decreases-loop-done g l = length l.out - l.done
