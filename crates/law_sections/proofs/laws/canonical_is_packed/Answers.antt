use Rattle.abt_sections.proofs.Canonical.{canonical_iff, packed_opens}
use Rattle.law_sections.proofs.laws.canonical_is_packed.Goals as goal

pub returns-clause-exact : goal.returns-clause-exact
returns-clause-exact c = canonical_iff

pub returns-clause-opens : goal.returns-clause-opens
returns-clause-opens c = packed_opens
