use Rattle.std.proofs.Common.{◌∙◌, ap}
use Rattle.std.specs.Prelude.{is_some}
use Rattle.words_orders.proofs.Answered.{answered}
use Rattle.words_orders.proofs.answers.Answers.is_answered.Goals as goal

pub returns : goal.returns
returns c =
    c.is_some.ensures ∙ ap (λ o. is_some o) c.find.ensures ∙ answered c.args.name.now c.args.self.now.all.items
