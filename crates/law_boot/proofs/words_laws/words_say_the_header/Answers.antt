use Rattle.law_boot.proofs.WordsSay.{header_says}
use Rattle.law_boot.proofs.words_laws.words_say_the_header.Goals as goal

pub returns : goal.returns
returns c = λ folder x h k. header_says folder x h k
