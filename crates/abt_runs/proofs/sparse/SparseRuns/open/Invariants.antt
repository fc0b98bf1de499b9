use Rattle.std.proofs.Common.{◌≤◌, ◌+◌, ◌*◌, ◌-◌, max}
use Rattle.std.specs.Prelude.{IsTrue, Ok}
use Rattle.abt_io.specs.Lent.{OnlyReads}
use Rattle.abt_runs.specs.declared.part.RunFault.{RunFault}
use Rattle.abt_sparse.specs.Reading.{outcome}
use Rattle.abt_runs.specs.Stage.{IsOpeningOver}
use Rattle.abt_runs.specs.Verdict.{ComesTo, ends, to_do}
use Rattle.abt_runs.proofs.sparse.SparseRuns.open.Given as goal

abbrev pub invariant-steps : goal.invariant-steps
invariant-steps g l =
    let content = g.S.Source.content in
    let given = g.S.Source.given in
    record {
      going : IsOpeningOver l.opening.stage → ⊥;
      told : IsTrue g.S.Source.models → ComesTo l.opening (content l.fn.source) (ends (outcome (content l.fn.source)));
      reads : OnlyReads {X = Unit {0}} {E = RunFault} (Ok tt) g.S.Source l.fn.source l.source;
      charged : given l.source ≤ given l.fn.source + l.opening.at;
      more : given l.fn.source ≤ given l.source;
      received : given l.source + 28 * l.fn.m.steps.number ≤ given l.fn.source + 28 * l.m.steps.number;
      calls : g.S.Source.reads l.source ≤ g.S.Source.reads l.fn.source + 2 * (given l.source - given l.fn.source);
      turns : l.m.turns.number ≤ l.fn.m.turns.number + 2 * (given l.source - given l.fn.source);
      greatest : l.m.greatest.number ≤ max l.fn.m.greatest.number 28;
    }

abbrev pub decreases-steps : goal.decreases-steps
decreases-steps g l = to_do l.opening
