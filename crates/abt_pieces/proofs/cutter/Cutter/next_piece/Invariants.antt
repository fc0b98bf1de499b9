use Rattle.std.proofs.Common.{◌≡◌, ◌≤◌, ◌+◌, ◌-◌, ◌*◌, ◌++◌, ◌⊎◌, length, take, drop, max, true}
use Rattle.std.specs.Prelude.{IsTrue, Ok}
use Rattle.abt_io.specs.Lent.{OnlyReads, OnlyWrites}
use Rattle.abt_pieces.specs.Cutter.{ToldCutter, coming, so_far, is_begun, cut_left, silent_cut, cut_words}
use Rattle.abt_pieces.specs.Image.{Leads, StageMayCome}
use Rattle.abt_pieces.specs.SpentStage.{SpentStage, all_passes}
use Rattle.abt_pieces.specs.declared.stage.CutterStage.TheVariants.{Between}
use Rattle.abt_pieces.proofs.cutter.Cutter.next_piece.Given as goal

abbrev pub invariant-steps : goal.invariant-steps
invariant-steps g l =
    let content = g.S.Source.content in
    let written = g.O.Output.written in
    let blocks = g.R.BlockRuns.list l.fn.self.runs (content l.fn.source) in
    let size = g.R.BlockRuns.size l.fn.self.runs in
    record {
      runs : l.self.runs ≡ l.fn.self.runs;
      limit : l.self.limit ≡ l.fn.self.limit;
      start : l.self.start ≡ l.fn.self.start;
      made : l.self.made ≡ l.fn.self.made;
      reads : OnlyReads {X = Unit {0}} {E = Unit {0}} (Ok tt) g.S.Source l.fn.source l.source;
      writes : OnlyWrites {X = Unit {0}} {E = Unit {0}} (Ok tt) 0 g.O.Output l.fn.output l.output;
      told : IsTrue g.S.Source.models → ToldCutter (g.R.BlockRuns.place l.fn.self.runs (content l.fn.source))
          (g.R.BlockRuns.together l.fn.self.runs (content l.fn.source)) size blocks l.self.limit l.self.made
          l.self.start l.self.stage;
      fresh : ((is_begun l.self.stage ≡ true) × (l.fn.self.stage ≡ Between))
          ⊎ ((l.self ≡ l.fn.self) × (l.output ≡ l.fn.output) × (l.source ≡ l.fn.source)
          × (l.self.stage ≡ l.fn.self.stage));
      counted : so_far l.self.stage ≡ length (written l.output) - length (written l.fn.output);
      front : IsTrue g.S.Source.models → written l.output ≡ written l.fn.output
          ++ take (length (written l.output) - length (written l.fn.output))
          (coming size l.fn.self.limit blocks l.fn.self.start.block l.fn.self.stage);
      rest : IsTrue g.S.Source.models → coming size l.fn.self.limit blocks l.fn.self.start.block l.self.stage ≡ drop
          (length (written l.output) - length (written l.fn.output))
          (coming size l.fn.self.limit blocks l.fn.self.start.block l.fn.self.stage);
      given : g.S.Source.given l.fn.source ≤ g.S.Source.given l.source;
      steps : g.S.Source.given l.source + 65536 * l.fn.m.steps.number ≤ g.S.Source.given l.fn.source + 65536
          * l.m.steps.number;
      greatest : l.m.greatest.number ≤ max l.fn.m.greatest.number 65536;
      calls : g.S.Source.reads l.source + 2 * silent_cut (g.R.BlockRuns.count l.fn.self.runs) l.self.stage
          ≤ g.S.Source.reads l.fn.source + 3 * (g.S.Source.given l.source - g.S.Source.given l.fn.source) + 2 *
          (length (written l.output) - length (written l.fn.output)) + 12;
      write_calls : g.O.Output.writes l.output + silent_cut (g.R.BlockRuns.count l.fn.self.runs) l.self.stage
          ≤ g.O.Output.writes l.fn.output + (g.S.Source.given l.source - g.S.Source.given l.fn.source) + 2 *
          (length (written l.output) - length (written l.fn.output)) + 6;
      turns : l.m.turns.number + 4 * silent_cut (g.R.BlockRuns.count l.fn.self.runs) l.self.stage
          ≤ l.fn.m.turns.number + 6 * (g.S.Source.given l.source - g.S.Source.given l.fn.source) + 5 *
          (length (written l.output) - length (written l.fn.output)) + cut_words (g.R.BlockRuns.one l.fn.self.runs)
          (g.R.BlockRuns.count l.fn.self.runs) l.self.start l.self.stage + 24;
      spent : IsTrue g.S.Source.models
          → SpentStage (λ c. g.R.BlockRuns.within l.fn.self.runs c
          × g.R.BlockRuns.place l.fn.self.runs (content l.fn.source) c) (g.R.BlockRuns.charge l.fn.self.runs)
          (g.R.BlockRuns.copied l.fn.self.runs) (g.R.BlockRuns.held l.fn.self.runs) size l.fn.self.limit
          (g.R.BlockRuns.count l.fn.self.runs) (g.R.BlockRuns.one l.fn.self.runs) l.fn.self.start
          (all_passes (g.R.BlockRuns.charge l.fn.self.runs) (g.R.BlockRuns.copied l.fn.self.runs) l.fn.self.start +
          (g.S.Source.given l.source - g.S.Source.given l.fn.source)) l.self.stage;
      leads : Leads (StageMayCome size (g.R.BlockRuns.count l.fn.self.runs) l.fn.self.stage)
          (StageMayCome size (g.R.BlockRuns.count l.fn.self.runs) l.self.stage) (written l.fn.output)
          (written l.output);
    }

abbrev pub decreases-steps : goal.decreases-steps
decreases-steps g l =
    cut_left (g.R.BlockRuns.left l.fn.self.runs) (g.R.BlockRuns.count l.fn.self.runs) l.self.start l.self.stage
