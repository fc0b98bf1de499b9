use Rattle.std.proofs.Common.{◌≡◌, ◌≤◌, ◌-◌, take, drop}
use Rattle.std.specs.Prelude.{IsTrue, Ok}
use Rattle.abt_io.specs.Lent.{OnlyReads}
use Rattle.cmd_common_findings.specs.LeftOut.{set_in}
use Rattle.cmd_common_findings.proofs.set_bytes.set_between.Given as goal

abbrev pub invariant-loop-done : goal.invariant-loop-done
invariant-loop-done g l =
    let s = g.S.Source in
    record {
      within : l.done ≤ l.all;
      reads : OnlyReads {X = Unit {0}} {E = Unit {0}} (Ok tt) s l.fn.source l.source;
      few : l.count ≤ l.done;
      value : IsTrue s.models → l.count ≡ set_in (take l.done (drop l.from (s.content l.fn.source)));
    }

abbrev pub decreases-loop-done : goal.decreases-loop-done
decreases-loop-done g l = l.all - l.done
