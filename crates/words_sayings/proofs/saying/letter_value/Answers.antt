use Rattle.std.proofs.Common.{None, arith}
use Rattle.std.proofs.lemmas.Str.Pattern.{strip_prefix_char}
use Rattle.words_sayings.proofs.ReadSteps.{whole_value}
use Rattle.words_sayings.proofs.saying.letter_value.Goals as goal

pub returns-in-None : goal.returns-in-None
returns-in-None c =
    whole_value c.args.more.now c.is_empty.result c.is_empty.ensures c.if-is_empty.false
    (strip_prefix_char 61 c.args.more.now None c.in-None.ensures.cases (omega arith))
