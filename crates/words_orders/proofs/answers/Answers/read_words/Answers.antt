use Rattle.std.proofs.Common.{[], ◌∷◌, ◌++◌, ◌∙◌}
use Rattle.std.proofs.lemmas.List.Elements.{All-push, All-same}
use Rattle.words_orders.specs.Asked.{IsReadRight, saying_of_answer}
use Rattle.words_sayings.specs.Rows.{shape_of}
use Rattle.words_sayings.specs.Words.{of_row}
use Rattle.words_orders.proofs.ReadSteps.{added_more_of, answer_is, read_is}
use Rattle.words_orders.proofs.Refusing.{told_unread, unread_at}
use Rattle.words_orders.proofs.answers.Answers.read_words.Goals as goal

pub loop-word-preserved : goal.loop-word-preserved
loop-word-preserved c =
    let all = c.loop-word.self.all.items in
    let answer = c.in-Ok.answer in
    let row = shape_of c.args.row.now in (
      added_more_of saying_of_answer (of_row row) (λ s. s.now) all c.push.new.self.all.items c.args.words.now
          c.loop-word.word-index _ answer c.loop-word-test.true c.in_ok-push.ensures
          (answer_is answer c.args.row.now _ c.in-Ok.ensures.row c.in-Ok.ensures.word)
          ∙ c.loop-word.invariant.0,
      λ before.
          All-same IsReadRight c.push.new.self.all.items (all ++ (answer ∷ [])) c.in_ok-push.ensures
          (All-push IsReadRight all answer (c.loop-word.invariant.1 before)
          (read_is answer c.args.row.now _ c.in-Ok.ensures.row c.in-Ok.ensures.word
          c.in-Ok.ensures.number)),
    )

pub returns-in-Err-clause-refused : goal.returns-in-Err-clause-refused
returns-in-Err-clause-refused c = λ is all.
    unread_at (shape_of c.args.row.now) c.args.words.now c.loop-word.word-index _ c.loop-word-test.true
    (told_unread (shape_of c.args.row.now) _ _ _ c.in-Err.ensures.refused is) all
