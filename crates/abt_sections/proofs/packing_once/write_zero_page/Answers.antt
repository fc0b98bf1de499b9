use Rattle.abt_sections.proofs.Placing.{page_broken}
use Rattle.abt_sections.proofs.packing_once.write_zero_page.Goals as goal

pub returns-in-Err-clause-broken : goal.returns-in-Err-clause-broken
returns-in-Err-clause-broken g c = page_broken _ _ c.args.page _ c.write_zeros.ensures.front
