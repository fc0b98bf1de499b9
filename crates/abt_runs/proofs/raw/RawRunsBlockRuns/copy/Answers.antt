use Rattle.std.specs.Prelude.{false}
use Rattle.abt_runs.proofs.Tailed.{copied_list}
use Rattle.abt_runs.proofs.raw.RawRunsBlockRuns.copy.Goals as goal

pub returns-clause-bytes : goal.returns-clause-bytes
returns-clause-bytes g c = λ models.
    let s = c.args.self.now in
    copied_list c.copy_from.result false s.size c.args.here.block c.args.at s.blocks s.length _ _ s.some s.covers
    s.last (c.requires.told models).0 c.requires.within.within (c.copy_from.ensures.bytes models)
