use Rattle.abt_sections.proofs.Magic.{opens_as_nothing}
use Rattle.law_sections.proofs.laws.no_magic_is_no_image.Goals as goal

pub returns : goal.returns
returns c = opens_as_nothing
