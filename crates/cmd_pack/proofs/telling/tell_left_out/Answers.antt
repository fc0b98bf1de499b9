use Rattle.std.proofs.Common.{refl}
use Rattle.cmd_pack.proofs.Repacks.{grown_thrice}
use Rattle.cmd_pack.proofs.telling.tell_left_out.Goals as goal

pub returns : goal.returns
returns c =
    let first = c.short.ensures.1.grown in
    let next = c.end_line.ensures.grown in
    let last = c.finish.ensures.prints.grown in (
      (refl, refl),
      (_, grown_thrice _ _ _ _ _ first.0 next.0 last.0 c.new-text.ensures.written first.1 next.1 last.1),
    )
