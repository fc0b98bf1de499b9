use Rattle.abt_sections.proofs.Laying.{is_image}
use Rattle.law_sections.proofs.laws.packed_is_image.Goals as goal

pub returns : goal.returns
returns c = is_image
