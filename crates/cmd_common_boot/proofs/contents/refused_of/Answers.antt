use Rattle.std.proofs.Common.{map}
use Rattle.cmd_common_boot.proofs.Refusals.{a_refusal, no_refusal, refusal_fixed}
use Rattle.cmd_common_boot.proofs.contents.refused_of.Goals as goal

pub returns-clause-accepted : goal.returns-clause-accepted
returns-clause-accepted c =
    no_refusal c.without_room.result c.judged.result _
    (refusal_fixed c.args.kind c.args.fields.now (map (λ s. s.size) c.args.parts.now)
    (map (λ s. s.size) c.args.sources.now))
    c.without_room.ensures.refused c.judged.ensures.moving

pub returns-clause-refused : goal.returns-clause-refused
returns-clause-refused c =
    a_refusal c.without_room.result c.judged.result _ c.without_room.ensures.only c.judged.ensures.same
    c.judged.ensures.fixed
