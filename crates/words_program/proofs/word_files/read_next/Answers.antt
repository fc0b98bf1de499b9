use Rattle.std.proofs.Common.{refl}
use Rattle.words_values.proofs.WordFiles.{unnamed}
use Rattle.words_program.proofs.WordFiles.{reads_none}
use Rattle.words_program.proofs.word_files.read_next.Goals as goal

pub returns-in_default-clause-texts : goal.returns-in_default-clause-texts
returns-in_default-clause-texts g c = λ t.
    reads_none c.args.word.now _ _ _ (unnamed c.args.word.now (c.in_default.ensures.none refl))
