use Rattle.std.proofs.Common.{None, arith}
use Rattle.std.proofs.lemmas.Str.Pattern.{strip_suffix_char}
use Rattle.words_tools.proofs.tools.before_slash.Goals as goal

pub returns-clause-none : goal.returns-clause-none
returns-clause-none c = λ none folder e.
    strip_suffix_char 47 c.args.text.now None (rw none at c.strip_suffix.ensures.cases) (omega arith) folder e
