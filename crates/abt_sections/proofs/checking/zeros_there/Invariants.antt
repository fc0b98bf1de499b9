use Rattle.std.proofs.Common.{◌-◌, ◌≡◌, ◌≤◌, take, drop, true}
use Rattle.std.specs.Prelude.{IsTrue, Ok}
use Rattle.abt_io.specs.Lent.{OnlyReads}
use Rattle.abt_sections.specs.Check.{all_zero}
use Rattle.abt_sections.proofs.checking.zeros_there.Given as goal

abbrev pub invariant-loop-done : goal.invariant-loop-done
invariant-loop-done g l =
    let s = g.S.Source in
    record {
      within : l.done ≤ l.n;
      reads : OnlyReads {X = Unit {0}} {E = Unit {0}} (Ok tt) s l.fn.source l.source;
      zeros : IsTrue s.models → all_zero (take l.done (drop l.at (s.content l.fn.source))) ≡ true;
    }

abbrev pub decreases-loop-done : goal.decreases-loop-done
decreases-loop-done g l = l.n - l.done
