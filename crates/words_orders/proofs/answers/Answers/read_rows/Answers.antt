use Rattle.std.proofs.Common.{◌∙◌, map}
use Rattle.words_orders.specs.Asked.{saying_of_answer}
use Rattle.words_sayings.specs.Rows.{shape_of}
use Rattle.words_sayings.specs.Words.{saying_of}
use Rattle.words_orders.proofs.ReadSteps.{answered_more, left_more}
use Rattle.words_orders.proofs.Refusing.{due_here, due_later, none_left}
use Rattle.words_orders.proofs.answers.Answers.read_rows.Goals as goal

pub loop-row-preserved : goal.loop-row-preserved
loop-row-preserved c =
    let left = map (λ s. s.now) c.loop-row.left.now in
    let next = map (λ s. s.now) c.later_words-left.result.now in
    let words = map (λ s. s.now) c.in_ok-words.words.items in (
      answered_more (λ row. shape_of row.now) c.args.rows.now c.loop-row.row-index _ (map saying_of c.args.said.now)
          (map saying_of_answer c.loop-row.self.all.items) (map saying_of_answer c.read_words.new.self.all.items) left
          next words c.loop-row-test.true c.in_ok-words.ensures c.later_words-left.ensures
          (rw c.as_slice.ensures.value at c.in-Ok.ensures.are) ∙ c.loop-row.invariant.0,
      left_more (λ row. shape_of row.now) c.args.rows.now c.loop-row.row-index _ left next c.loop-row-test.true
          c.later_words-left.ensures ∙ c.loop-row.invariant.1,
      λ before. c.in-Ok.ensures.read (c.loop-row.invariant.2 before),
      λ all. due_later (λ row. shape_of row.now) c.args.rows.now c.loop-row.row-index _ (map saying_of c.args.said.now)
          left c.loop-row-test.true next c.later_words-left.ensures (c.loop-row.invariant.3 all),
    )

pub returns-in-Err-clause-refused : goal.returns-in-Err-clause-refused
returns-in-Err-clause-refused c = λ is all.
    (rw c.as_slice.ensures.value at c.in-Err.ensures.refused) is
    (due_here (λ row. shape_of row.now) c.args.rows.now c.loop-row.row-index _ (map saying_of c.args.said.now)
    (map (λ s. s.now) c.loop-row.left.now) c.loop-row-test.true (map (λ s. s.now) c.in_ok-words.words.items)
    c.in_ok-words.ensures (c.loop-row.invariant.3 all))

pub returns-clause-left : goal.returns-clause-left
returns-clause-left c =
    none_left (λ row. shape_of row.now) c.args.rows.now c.loop-row.row-index c.loop-row.left.now _ c.is_empty.result
    c.is_empty.ensures c.loop-row-test.false c.loop-row.invariant.1
