use Rattle.std.proofs.Common.{◌-◌, sym, subst}
use Rattle.abt_flash.specs.Flashing.{Holds}
use Rattle.cmd_expand.specs.Overlaying.{IsImageOf}
use Rattle.cmd_expand.proofs.Lays.{answer_blames, at_front, synced_if}
use Rattle.cmd_expand.proofs.overlay_loop.flash_one.Goals as goal

pub returns-clause-holds : goal.returns-clause-holds
returns-clause-holds g c = λ t u.
    subst (λ x. Holds c.flash.result (g.S.Source.given c.flash.new.input.device.source
    - g.S.Source.given c.args.from.now.device.source)
    (g.P.Source.content c.args.onto.now) (g.P.Source.content c.flash.new.partition) x)
    (at_front c.args.from.now.device.position (g.S.Source.content c.args.from.now.device.source) c.requires.first)
    (c.flash.ensures.holds t u)

pub returns-clause-refused : goal.returns-clause-refused
returns-clause-refused g c = λ t blocks block sized image.
    answer_blames c.flash.result blocks block _ _ _ _ _ _ _ _ _ (c.flash.ensures.flashes t) c.flash.ensures.cause sized
    (subst (IsImageOf blocks block) (sym (at_front c.args.from.now.device.position
    (g.S.Source.content c.args.from.now.device.source) c.requires.first)) image)

pub returns-clause-synced : goal.returns-clause-synced
returns-clause-synced g c = synced_if c.flash.result _ _ c.flash.ensures.syncs.synced

pub returns-clause-settled : goal.returns-clause-settled
returns-clause-settled g c = λ t. c.flash.ensures.syncs.settled t

pub returns-clause-same : goal.returns-clause-same
returns-clause-same g c = λ t u. (c.flash.ensures.seen t u).same
