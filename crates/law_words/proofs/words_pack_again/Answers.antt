use Rattle.law_words.proofs.Back.{packs_again_by_words}
use Rattle.law_words.proofs.words_pack_again.Goals as goal

pub returns : goal.returns
returns c = packs_again_by_words c.unpacked_packs_again.ensures c.image_is_held.ensures
