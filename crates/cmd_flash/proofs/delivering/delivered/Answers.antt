use Rattle.std.proofs.Common.{ap, ◌-◌, Some, None}
use Rattle.cmd_flash.proofs.Closed.{in_order}
use Rattle.cmd_flash.proofs.Deliveries.{answered_raw, answered_sparse, delivers}
use Rattle.cmd_flash.proofs.delivering.delivered.Goals as goal

pub returns-in-Some-clause-delivers : goal.returns-in-Some-clause-delivers
returns-in-Some-clause-delivers g c = λ s l p none.
    let e = c.resume_raw_at.ensures.delivered in
    let all = answered_raw c.in-Some.size c.args.limit (c.args.from - 1) _ _ c.resume_raw_at.result _ _ _ _ _ _ _ _ _ s
    l p
    (g.met.P.Source.sized c.args.onto.now p) (g.met.S.Source.sized c.args.source.now.device s)
    (λ same. ap g.P.Source.content same.1) e.allowed e.refused e.image.delivers.early
    (e.image.delivers.counted s) e.image.partition
    (e.image.mends s l p) in
    rw c.in-Some.is (in_order _ _ _ _ _ _ _ _ _ _ (Some c.in-Some.size) c.resume_raw_at.result c.args.limit
    (c.args.from - 1) _ _ _ (delivers (Some c.in-Some.size) c.args.limit (c.args.from - 1)
    c.resume_raw_at.result
    _ _ _ _ _ none all))

pub returns-in-None-clause-delivers : goal.returns-in-None-clause-delivers
returns-in-None-clause-delivers g c = λ s l p none.
    let e = c.resume.ensures.delivered in
    let all = answered_sparse c.args.limit (c.args.from - 1) _ c.resume.result _ _ _ _ _ _ _ _ _ s l p
    (g.met.P.Source.sized c.args.onto.now p) (λ same. ap g.P.Source.content same.1) (e.granted s) e.refused
    e.image.delivers.early (e.image.delivers.counted s) e.image.partition (e.image.mends s l p) in
    rw c.in-None.is (in_order _ _ _ _ _ _ _ _ _ _ None c.resume.result c.args.limit (c.args.from - 1) _ _ _
    (delivers None c.args.limit (c.args.from - 1) c.resume.result _ _ _ _ _ none all))

pub returns-in-Some-clause-same : goal.returns-in-Some-clause-same
returns-in-Some-clause-same g c = λ s l p. (c.resume_raw_at.ensures.delivered.image.mends s l p).stays.same

pub returns-in-None-clause-same : goal.returns-in-None-clause-same
returns-in-None-clause-same g c = λ s l p. (c.resume.ensures.delivered.image.mends s l p).stays.same
