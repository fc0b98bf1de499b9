use Rattle.law_pack.proofs.Again.{unpacked_again}
use Rattle.law_pack.proofs.unpacked_packs_again.Goals as goal

pub returns : goal.returns
returns c =
    unpacked_again c.canonical_packs_again.ensures c.canonical_is_said.ensures c.image_is_held.ensures
