use Rattle.std.proofs.Common.{◌∙◌, ap, drop}
use Rattle.std.proofs.lemmas.Str.Pattern.{starts_text}
use Rattle.std.specs.Prelude.{false}
use Rattle.words_sayings.proofs.Mapped.{clash}
use Rattle.words_sayings.proofs.saying.behind.Goals as goal

pub returns-in-Some : goal.returns-in-Some
returns-in-Some c = λ _.
    c.in-Some.ensures.cases.2 ∙ ap (λ n. drop n c.args.text.now) c.in-Some.ensures.cases.1.0

pub returns-in-None : goal.returns-in-None
returns-in-None c = λ starts.
    absurd (clash (starts_text false c.args.front.now c.args.text.now c.in-None.ensures.cases ∙ starts))
