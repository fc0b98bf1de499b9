use Rattle.abt_sections.specs.Header.{view_of}
use Rattle.law_boot.proofs.ImagesSay.{image_said}
use Rattle.law_boot.proofs.words_laws.words_pack_again.Goals as goal

pub returns-clause-says : goal.returns-clause-says
returns-clause-says c = λ folder x bytes image opened canonical.
    let h = view_of c.args.image.now.header in
    image_said folder x bytes image h (c.words_say_the_header.ensures folder x h c.header_is_held.ensures)
    (c.canonical_packs_again.ensures x h image opened.has canonical)

pub returns-clause-packs : goal.returns-clause-packs
returns-clause-packs c =
    λ x image opened canonical. c.canonical_packs_again.ensures x (view_of c.args.image.now.header) image opened.has
    canonical
