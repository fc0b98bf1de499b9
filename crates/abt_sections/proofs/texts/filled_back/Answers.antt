use Rattle.std.proofs.Common.{ℕ, List, ap, ◌∙◌}
use Rattle.abt_sections.specs.Fields.{filled}
use Rattle.abt_sections.proofs.Bytes.{back_filled}
use Rattle.abt_sections.proofs.texts.filled_back.Goals as goal

pub returns : goal.returns
returns g c = c.filled.ensures
    ∙ ap (λ (x : List ℕ). filled g.row.N x)
    (back_filled c.args.from c.min-start.result c.args.text.now c.min-start.ensures)
