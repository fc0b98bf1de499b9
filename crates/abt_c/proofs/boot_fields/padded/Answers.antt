use Rattle.std.proofs.Common.{ap, ◌∙◌, length}
use Rattle.abt_c.proofs.Texts.{zeros_behind}
use Rattle.abt_c.proofs.boot_fields.padded.Goals as goal

pub returns-clause-behind : goal.returns-clause-behind
returns-clause-behind g c = zeros_behind _ g.row.N 2048 (ap length c.copy_from_slice.ensures.after ∙ c.told-text)
