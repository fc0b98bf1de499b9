use Rattle.std.proofs.Common.{◌≡◌, ◌∙◌, None, Some, map, ap}
use Rattle.words_sayings.specs.Steps.{table_of}
use Rattle.words_orders.specs.Table.{rows_of}
use Rattle.words_sayings.specs.Words.{saying_of, words_say}
use Rattle.words_orders.proofs.NoOrder.{no_answers, no_said}
use Rattle.words_orders.proofs.reading.read_parts.Goals as goal

pub returns-in-Ok-None-clause-none : goal.returns-in-Ok-None-clause-none
returns-in-Ok-None-clause-none g c = λ _ words split order o.
    let behind = map g.S.AsStr.text c.args.parts.behind.now in
    no_said words _ c.args.parts.command.now.work (map g.S.AsStr.text c.args.parts.front.now) behind split order o
    ((rw c.in-Ok-None.field-0-is at c.in-Ok-None.ensures)
    ∙ ap (λ t. words_say t behind) (ap table_of c.as_slice.ensures.value ∙ c.in_ok-rows.ensures))

pub returns-in-Ok-None-answers_to-clause-none : goal.returns-in-Ok-None-answers_to-clause-none
returns-in-Ok-None-answers_to-clause-none g c = λ found words split order o.
    let behind = map g.S.AsStr.text c.args.parts.behind.now in
    no_answers words _ c.args.parts.command.now.work (map g.S.AsStr.text c.args.parts.front.now) behind split order o
    (map saying_of c.in-Ok-Some.said.items)
    ((rw c.in-Ok-Some.field-0-is at c.in-Ok-Some.ensures)
    ∙ ap (λ t. words_say t behind) (ap table_of c.as_slice.ensures.value ∙ c.in_ok-rows.ensures))
    ((rw (
      c.in-Ok-None-answers_to.field-0-is,
      c.as_slice-4.ensures.value,
      c.as_slice-5.ensures.value,
      c.in_ok-rows.ensures,
    ) at c.in-Ok-None-answers_to.ensures.none) found)

pub returns-in-Err-answers_to-clause-none : goal.returns-in-Err-answers_to-clause-none
returns-in-Err-answers_to-clause-none g c = λ found words split order o.
    let behind = map g.S.AsStr.text c.args.parts.behind.now in
    no_answers words _ c.args.parts.command.now.work (map g.S.AsStr.text c.args.parts.front.now) behind split order o
    (map saying_of c.in-Ok-Some.said.items)
    ((rw c.in-Ok-Some.field-0-is at c.in-Ok-Some.ensures)
    ∙ ap (λ t. words_say t behind) (ap table_of c.as_slice.ensures.value ∙ c.in_ok-rows.ensures))
    ((rw (
      c.as_slice-4.ensures.value,
      c.as_slice-5.ensures.value,
      c.in_ok-rows.ensures,
    ) at c.in-Err-answers_to.ensures.none) found)
