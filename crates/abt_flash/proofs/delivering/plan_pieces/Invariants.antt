use Rattle.std.proofs.Common.{◌≡◌, ◌≤◌, ◌+◌, ◌-◌, ◌*◌, max}
use Rattle.std.specs.Prelude.{IsTrue}
use Rattle.abt_pieces.specs.Cutter.{ToldCutter}
use Rattle.abt_flash.specs.Going.{Unbroken, words_so_far}
use Rattle.abt_flash.proofs.delivering.plan_pieces.Given as goal

abbrev pub invariant-pieces : goal.invariant-pieces
invariant-pieces g l =
    let content = g.S.Source.content in
    let image = l.fn.cutter.runs in
    let n = g.R.BlockRuns.count l.fn.cutter.runs in
    let one = g.R.BlockRuns.one l.fn.cutter.runs in
    record {
      runs : l.cutter.runs ≡ l.fn.cutter.runs;
      limit : l.cutter.limit ≡ l.fn.cutter.limit;
      told : IsTrue g.S.Source.models
          → ToldCutter (g.R.BlockRuns.place image (content l.fn.source))
          (g.R.BlockRuns.together image (content l.fn.source)) (g.R.BlockRuns.size image)
          (g.R.BlockRuns.list image (content l.fn.source)) l.cutter.limit l.cutter.made l.cutter.start l.cutter.stage;
      kept : IsTrue g.S.Source.models → content l.source ≡ content l.fn.source;
      size : IsTrue g.S.Source.models → g.S.Source.size l.source ≡ g.S.Source.size l.fn.source;
      frame : g.S.Source.read_frame l.source ≡ g.S.Source.read_frame l.fn.source;
      unbroken : Unbroken n l.cutter.made l.cutter.start.block l.cutter.stage;
      few : l.cutter.made ≤ max 1 n;
      planned : l.cutter.made ≤ l.before;
      given : g.S.Source.given l.fn.source ≤ g.S.Source.given l.source;
      charged : g.S.Source.given l.source + g.R.BlockRuns.charge image l.fn.cutter.start
          ≤ g.S.Source.given l.fn.source + g.R.BlockRuns.charge image l.cutter.start + l.cutter.made * (48 + one);
      calls : g.S.Source.reads l.source + 8 * g.S.Source.given l.fn.source ≤ g.S.Source.reads l.fn.source + 8
          * g.S.Source.given l.source + 128 * l.cutter.made;
      turns : l.m.turns.number + 8 * g.S.Source.given l.fn.source ≤ l.fn.m.turns.number + 8
          * g.S.Source.given l.source + words_so_far one n l.cutter.start.block l.cutter.stage + 129 * l.cutter.made;
      steps : g.S.Source.given l.source + 65580 * l.fn.m.steps.number ≤ g.S.Source.given l.fn.source + 65580
          * l.m.steps.number;
      greatest : l.m.greatest.number ≤ max l.fn.m.greatest.number 65580;
      faults : g.S.Source.read_faults l.source ≡ g.S.Source.read_faults l.fn.source;
    }

abbrev pub decreases-pieces : goal.decreases-pieces
decreases-pieces g l = l.before - l.cutter.made
