use Rattle.std.proofs.Common.{ℕ, List, ap, ◌∙◌}
use Rattle.abt_sections.specs.Fields.{filled}
use Rattle.abt_sections.proofs.Bytes.{front_filled}
use Rattle.abt_sections.proofs.texts.filled_front.Goals as goal

pub returns : goal.returns
returns g c = c.filled.ensures ∙ ap (λ (x : List ℕ). filled g.row.N x)
    (front_filled c.args.most c.min-end.result c.args.text.now c.min-end.ensures)
