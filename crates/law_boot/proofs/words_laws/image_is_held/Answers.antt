use Rattle.law_boot.proofs.Held.{image_held}
use Rattle.law_boot.proofs.words_laws.image_is_held.Goals as goal

pub returns : goal.returns
returns c = λ x h bytes has. image_held x h bytes ((c.image_is_whole.ensures.exact x h bytes).0 has)
