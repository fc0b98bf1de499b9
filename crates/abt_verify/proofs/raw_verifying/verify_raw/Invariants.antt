use Rattle.std.proofs.Common.{Ok, length, take, ◌-◌, ◌≡◌, ◌≤◌, ◌+◌, ◌*◌, max}
use Rattle.std.specs.Prelude.{IsTrue}
use Rattle.abt_io.specs.Lent.{OnlyReads}
use Rattle.abt_chunks.specs.Ahead.{somes}
use Rattle.abt_verify.specs.Standing.{Stands}
use Rattle.abt_verify.specs.Stepping.{IsUnderway}
use Rattle.abt_verify.proofs.raw_verifying.verify_raw.Given as goal

abbrev pub invariant-steps : goal.invariant-steps
invariant-steps g l =
    let s = g.S.Source in
    let p = g.P.Source in
    record {
      goes : IsUnderway l.machine.stage;
      long : IsTrue s.models → l.machine.length ≡ length (s.content l.fn.source);
      told : IsTrue s.models → IsTrue p.models
          → Stands (p.content l.fn.partition) (somes (take l.machine.at (s.content l.fn.source)));
      read : s.given l.source ≡ s.given l.fn.source + l.machine.at;
      compared : p.given l.partition ≡ p.given l.fn.partition + l.machine.at;
      source : OnlyReads {X = Unit {0}} {E = Unit {0}} (Ok tt) s l.fn.source l.source;
      partition : OnlyReads {X = Unit {0}} {E = Unit {0}} (Ok tt) p l.fn.partition l.partition;
      calls : s.reads l.source + p.reads l.partition
          ≤ s.reads l.fn.source + p.reads l.fn.partition + 8 * l.machine.at;
      turns : l.m.turns.number ≤ l.fn.m.turns.number + 8 * l.machine.at;
      steps : 2 * l.machine.at + 65580 * l.fn.m.steps.number ≤ 65580 * l.m.steps.number;
      greatest : l.m.greatest.number ≤ max l.fn.m.greatest.number 65580;
    }

abbrev pub decreases-steps : goal.decreases-steps
decreases-steps g l = l.machine.length - l.machine.at
