use Rattle.law_boot.proofs.PackedAgain.{packs_again}
use Rattle.law_boot.proofs.words_laws.canonical_packs_again.Goals as goal

pub returns : goal.returns
returns c = λ x h bytes has canonical.
    packs_again c.packed_holds_parts.ensures.boot c.packed_holds_parts.ensures.vendor
    c.packed_holds_parts.ensures.fragments x h has ((c.canonical_is_packed.ensures.exact x h bytes has).0 canonical)
