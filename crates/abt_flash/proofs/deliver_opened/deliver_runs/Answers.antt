use Rattle.std.proofs.Common.{ℕ, ◌+◌, ◌*◌, ◌≤◌}
use Rattle.abt_flash.proofs.GivenBytes.{forward_read, of_all}
use Rattle.abt_flash.proofs.deliver_opened.deliver_runs.Goals as goal

pub returns-clause-reads : goal.returns-clause-reads
returns-clause-reads g c models =
    let runs = c.args.runs in
    let e = c.deliver_behind.ensures in
    of_all (λ (n : ℕ). g.S.Source.given c.deliver_behind.new.source + g.R.BlockRuns.opening runs
    ≤ g.S.Source.given c.args.source.now + 8 * g.R.BlockRuns.image runs + 128 * (n + 1)) c.deliver_behind.result
    (forward_read c.deliver_behind.result (g.R.BlockRuns.within runs) (g.R.BlockRuns.charge runs)
    (g.R.BlockRuns.copied runs) (g.R.BlockRuns.one runs) (g.R.BlockRuns.pass runs) (g.R.BlockRuns.image runs)
    (g.R.BlockRuns.count runs) (g.R.BlockRuns.opening runs) _ 0 _ _ e.delivered.image.delivers.some e.few
    (g.met.R.BlockRuns.spared runs) (g.met.R.BlockRuns.economy runs) (e.reads models))
