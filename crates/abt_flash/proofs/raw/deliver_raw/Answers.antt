use Rattle.std.proofs.Common.{◌+◌, ◌*◌, ◌≤◌}
use Rattle.abt_flash.proofs.GivenBytes.{forward_raw, of_all}
use Rattle.abt_flash.proofs.raw.deliver_raw.Goals as goal

pub returns-clause-reads : goal.returns-clause-reads
returns-clause-reads g c models =
    let e = c.raw_behind.ensures in
    of_all (λ n. g.S.Source.given c.raw_behind.new.source ≤ _ + 128 * (n + 1)) c.raw_behind.result
    (forward_raw c.raw_behind.result _ c.args.b _ 0 _ _ e.delivered.image.delivers.some (e.few models) (e.reads models))
