use Rattle.abt_sections.proofs.Wholes.{whole_iff}
use Rattle.law_sections.proofs.laws.image_is_whole.Goals as goal

pub returns-clause-exact : goal.returns-clause-exact
returns-clause-exact c = whole_iff
