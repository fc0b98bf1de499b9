use Rattle.std.proofs.Common.{None, arith}
use Rattle.std.proofs.lemmas.Str.Pattern.{strip_prefix_char}
use Rattle.words_values.proofs.word_files.file_of.Goals as goal

pub returns-in_err-path-clause-none : goal.returns-in_err-path-clause-none
returns-in_err-path-clause-none c = λ none path e named.
    strip_prefix_char 64 c.args.word.now None c.in_err-path.ensures.cases (omega arith) path e
