use Rattle.std.proofs.Common.{◌∙◌, ap, List, length, take}
use Rattle.abt_headers.specs.declared.sections.SectionPlace.{SectionPlace}
use Rattle.abt_headers.proofs.Places.{first_places}
use Rattle.abt_headers.proofs.sections.lay.Goals as goal

pub returns-clause-places : goal.returns-clause-places
returns-clause-places c =
    ap (λ (l : List SectionPlace). take (length c.args.sections.now) l) c.five_places.ensures.places
    ∙ rw c.copy_from_slice.ensures.after (first_places c.args.page c.args.first c.args.sections.now _)
