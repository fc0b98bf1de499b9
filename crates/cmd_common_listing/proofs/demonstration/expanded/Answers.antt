use Rattle.std.proofs.Common.{refl, ap, ◌∙◌}
use Rattle.cmd_common_listing.proofs.Demonstrated.{from_front, image_gives, kept_is}
use Rattle.cmd_common_listing.proofs.demonstration.expanded.Goals as goal

pub returns : goal.returns
returns c =
    let shown = c.expand.new.output in
    let image = ap (λ s. s.bytes.now) c.new-input.ensures.source ∙ c.new.ensures.bytes in
    kept_is shown.bytes shown.log.state.bytes shown.used c.is_whole.ensures shown.count shown.kept
    (image_gives c.expand.result _ _ _ _ c.new-shown.ensures (from_front _ _ _ c.new-input.ensures.position image)
    (c.expand.ensures.expands refl) c.expand.ensures.blame.cause)
