use Rattle.abt_runs.proofs.RawParts.{raw_found}
use Rattle.std.proofs.Common.{refl}
use Rattle.abt_runs.proofs.tail.TailRunsBlockRuns.next_raw.Goals as goal

-- raw blocks of a raw image need no header
pub returns : goal.returns
returns g c =
    let s = c.args.self.now.raw in
    let m = c.close_step.ensures in
    record {
      part = raw_found c.args.self.now.is_tail_raw s.length s.blocks s.size g.S.Source _ c.args.from c.args.cap _ _
          s.some s.covers s.last
          s.window c.requires.asks c.requires.inside c.requires.raw m.turns m.steps m.greatest;
      fetched = λ none. refl;
    }
