use Rattle.std.proofs.Common.{arith, ◌∙◌, ◌≤◌, length}
use Rattle.cmd_flash.proofs.Laid.{laid_filled}
use Rattle.cmd_flash.proofs.flash_source.lay_filled.Goals as goal

pub returns-in-Ok-clause-laid : goal.returns-in-Ok-clause-laid
returns-in-Ok-clause-laid g c = λ s p.
    let x = g.S.Source.content c.args.source.now in
    let room : length x ≤ length (g.P.Source.content c.args.onto.now) =
    omega (
      arith,
      c.requires.covers,
      c.requires.room,
      g.met.S.Source.sized c.args.source.now s,
      g.met.P.Source.sized c.args.onto.now p,
    ) in
    laid_filled _ _ _ x _ c.length-held.result c.args.need (c.in_ok-lay_source.ensures.laid s p)
    (c.in-Ok.ensures.written p)
    (c.length-held.ensures.told s) room (c.part.ensures.value ∙ c.lay_zeros.ensures)
