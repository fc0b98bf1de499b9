use Rattle.std.proofs.Common.{arith, ◌<◌, ◌^◌}
use Rattle.cmd_flash.proofs.Closed.{clean_held, late_failed, told_held}
use Rattle.cmd_flash.proofs.through.delivered_through.Goals as goal

pub returns-clause-delivers : goal.returns-clause-delivers
returns-clause-delivers g c = λ t none.
    let a = c.delivered-answer.ensures in
    let small : c.args.from < 2 ^ 32 = omega arith in
    told_held (g.D.Disk.held c.args.disk.now) _ _ _ _ _ _ _ _ _ _ c.args.raw c.delivered-answer.result _ c.args.limit
    c.args.from c.late-cause.result.0 _ _ _
    c.requires.some small a.syncs.some (c.close_spool.ensures.closed t)
    (λ cause is. late_failed c.close_spool.result c.late-cause.result.0 cause c.late-cause.ensures.none
    (c.close_spool.ensures.long t) c.close_spool.ensures.fault c.late-cause.ensures.settled is) c.told_of.ensures
    (a.delivers (g.met.D.Disk.source_told t) (g.met.D.Disk.through_told t) (g.met.D.Disk.part_told t) none)

pub returns-clause-clean : goal.returns-clause-clean
returns-clause-clean g c = λ t.
    clean_held (g.D.Disk.held c.args.disk.now) _ _ _ _ _ _ _ _ _ _ _ c.delivered-answer.result _ c.args.from
    c.late-cause.result.0 c.close_spool.result (c.close_spool.ensures.closed t) c.late-cause.ensures.settled
    c.told_of.ensures c.delivered-answer.ensures.clean

pub returns-clause-closed : goal.returns-clause-closed
returns-clause-closed g c = λ t. record { failures = _; closed = c.close_spool.ensures.closed t }

pub returns-clause-same : goal.returns-clause-same
returns-clause-same g c = λ t.
    let d = g.met.D.Disk in c.delivered-answer.ensures.same (d.source_told t) (d.through_told t) (d.part_told t)
