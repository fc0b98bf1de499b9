use Rattle.std.proofs.Common.{◌≡◌, ◌≤◌, ◌-◌, take, drop}
use Rattle.std.specs.Prelude.{IsTrue, Ok}
use Rattle.abt_io.specs.Lent.{OnlyReads}
use Rattle.cmd_common_findings.specs.Finding.{leading_zeros}
use Rattle.cmd_common_findings.proofs.set_bytes.first_set.Given as goal

abbrev pub invariant-loop-done : goal.invariant-loop-done
invariant-loop-done g l =
    let s = g.S.Source in
    record {
      within : l.done ≤ l.all;
      reads : OnlyReads {X = Unit {0}} {E = Unit {0}} (Ok tt) s l.fn.source l.source;
      zeros : IsTrue s.models → leading_zeros (take l.done (drop l.from (s.content l.fn.source))) ≡ l.done;
    }

abbrev pub decreases-loop-done : goal.decreases-loop-done
decreases-loop-done g l = l.all - l.done
