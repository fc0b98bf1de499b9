use Rattle.std.proofs.Common.{◌≡◌}
use Rattle.std.specs.Prelude.{IsTrue, Ok}
use Rattle.abt_io.specs.Lent.{OnlyReads}
use Rattle.cmd_expand.specs.CutOf.{IsSpanOf, SaidBelow}
use Rattle.cmd_expand.proofs.cut_of.span_of.Given as goal

abbrev pub invariant-parts : goal.invariant-parts
invariant-parts g l = record {
  reads : OnlyReads {X = Unit {0}} {E = Unit {0}} (Ok tt) g.S.Source l.initial.source l.source;
  within : g.R.BlockRuns.within l.runs l.at;
  place : IsTrue g.S.Source.models → g.R.BlockRuns.place l.runs (g.S.Source.content l.initial.source) l.at;
  span : IsTrue g.S.Source.models → IsSpanOf l.found
      (SaidBelow (g.R.BlockRuns.list l.runs (g.S.Source.content l.initial.source)) l.at.block);
}

abbrev pub decreases-parts : goal.decreases-parts
decreases-parts g l = g.R.BlockRuns.left l.runs l.at
