use Rattle.std.proofs.Common.{None, arith}
use Rattle.std.proofs.lemmas.Str.Pattern.{strip_prefix_char}
use Rattle.words_values.proofs.WordFiles.{own_unmarked}
use Rattle.words_values.proofs.word_files.own_word.Goals as goal

pub returns-in_default-2 : goal.returns-in_default-2
returns-in_default-2 c =
    own_unmarked c.args.word.now (strip_prefix_char 64 c.args.word.now None
    (rw c.in_default.is at c.strip_prefix.ensures.cases) (omega arith))
