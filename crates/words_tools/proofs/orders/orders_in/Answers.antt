use Rattle.std.proofs.Common.{List, map, ap, subst}
use Rattle.words_orders.specs.declared.answers.Answer.{Answer}
use Rattle.words_orders.specs.Asked.{AreAnswersOf}
use Rattle.words_tools.proofs.Rejecting.{no_answers, no_images}
use Rattle.words_tools.proofs.orders.orders_in.Goals as goal

pub returns-in-Ok-None-clause-none : goal.returns-in-Ok-None-clause-none
returns-in-Ok-None-clause-none g c = λ _.
    let text = g.S.AsStr.text in
    let own = map text c.in-Some.own.now in
    no_answers c.args.tool (map text c.args.words.now) c.args.said.now (text c.in-Some._caller.now) own
    (ap (map text) c.in-Some.ensures.cases.0)
    (subst (λ t. (all : List Answer) → AreAnswersOf t own all → ⊥) c.rows.ensures
    ((rw c.in-Ok-None.field-0-is at c.in-Ok-None.ensures.none) tt))

pub returns-in-Err-clause-none : goal.returns-in-Err-clause-none
returns-in-Err-clause-none g c = λ is.
    let text = g.S.AsStr.text in
    let own = map text c.in-Some.own.now in
    no_answers c.args.tool (map text c.args.words.now) c.args.said.now (text c.in-Some._caller.now) own
    (ap (map text) c.in-Some.ensures.cases.0)
    (subst (λ t. (all : List Answer) → AreAnswersOf t own all → ⊥) c.rows.ensures (c.in-Err.ensures.none is))

pub returns-clause-none : goal.returns-clause-none
returns-clause-none g c = λ is.
    let text = g.S.AsStr.text in
    let own = map text c.in-Some.own.now in
    let all = c.in-Ok-Some.answers.all.items in
    no_images c.args.tool (map text c.args.words.now) c.args.said.now (text c.in-Some._caller.now) own
    (ap (map text) c.in-Some.ensures.cases.0) all
    (subst (λ t. AreAnswersOf t own all) c.rows.ensures
    (rw c.in-Ok-Some.field-0-is at c.in-Ok-Some.ensures.answers)) (c.in-Err-orders_for.ensures.refused is)
