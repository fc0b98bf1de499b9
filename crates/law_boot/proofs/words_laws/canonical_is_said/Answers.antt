use Rattle.law_boot.proofs.ImagesSay.{image_said}
use Rattle.law_boot.proofs.words_laws.canonical_is_said.Goals as goal

pub returns : goal.returns
returns c = λ folder x h bytes image has canonical. image_said folder x bytes image h
    (c.words_say_the_header.ensures folder x h (c.image_is_held.ensures x h image has))
    (c.canonical_packs_again.ensures x h image has canonical)
