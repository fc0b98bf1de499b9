use Rattle.std.proofs.Common.{◌≡◌, true, ◌≤◌, ◌<◌, ◌+◌}
use Rattle.std.specs.Prelude.{IsTrue, Ok}
use Rattle.abt_io.specs.Lent.{OnlyReads}
use Rattle.abt_runs.specs.declared.part.RunFault.{RunFault}
use Rattle.abt_runs.specs.declared.part.RunKind.TheVariants as kinds
use Rattle.abt_runs.specs.Part.{entry, is_end}
use Rattle.abt_runs.specs.Whole.{room_in}
use Rattle.abt_runs.proofs.Charges.{CostSoFar}
use Rattle.abt_runs.proofs.Growing.{SoFar}
use Rattle.abt_runs.proofs.runs.BlockRuns.next_run.Given as goal

abbrev pub invariant-parts : goal.invariant-parts
invariant-parts g l =
    let runs = g.Self.BlockRuns in
    let content = g.S.Source.content in
    let self = l.fn.self in
    record {
      reads : OnlyReads {X = Unit {0}} {E = RunFault} (Ok tt) g.S.Source l.fn.source l.source;
      so_far : IsTrue g.S.Source.models → SoFar (runs.list self (content l.fn.source)) l.fn.from.block l.run;
      here_place : IsTrue g.S.Source.models → runs.place self (content l.fn.source) l.run.here;
      next_place : IsTrue g.S.Source.models → runs.place self (content l.fn.source) l.run.next;
      stands : IsTrue g.S.Source.models → l.run.kind ≡ kinds.Raw
          → 0 < runs.together self (content l.fn.source) l.run.here;
      here_within : runs.within self l.run.here;
      next_within : runs.within self l.run.next;
      reached : l.run.kind ≡ kinds.Raw → runs.size self ≤ runs.reach self l.run.here;
      here : l.run.here.block ≡ l.fn.from.block;
      next : l.run.next.block ≡ l.fn.from.block + l.run.blocks;
      none : l.run.blocks ≡ 0 → l.run.kind ≡ kinds.End;
      ended : is_end l.run.kind ≡ true → l.run.blocks ≡ 0;
      nowhere : l.run.blocks ≡ 0 → l.run.here ≡ l.run.next;
      few : l.run.kind ≡ kinds.Raw → l.run.blocks ≤ l.cap;
      charged : g.S.Source.given l.source + runs.charge self l.fn.from ≤ g.S.Source.given l.fn.source
          + runs.charge self l.run.next + entry l.fn.from;
      going : 0 < room_in l.run.kind l.run.blocks l.cap
          → g.S.Source.given l.source + runs.charge self l.fn.from + entry l.run.next ≤ g.S.Source.given l.fn.source
          + runs.charge self l.run.next + entry l.fn.from;
      costs : CostSoFar (runs.one self) (g.S.Source.reads l.fn.source) (g.S.Source.given l.fn.source)
          (g.S.Source.reads l.source) (g.S.Source.given l.source) l.fn.m l.m;
    }

abbrev pub decreases-parts : goal.decreases-parts
decreases-parts g l = g.Self.BlockRuns.left l.fn.self l.run.next
