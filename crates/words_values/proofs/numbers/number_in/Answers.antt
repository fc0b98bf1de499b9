use Rattle.std.proofs.Common.{◌≡◌, ◌∙◌, ◌<◌, ◌^◌, Some, ap, subst, arith}
use Rattle.words_values.specs.declared.rows.Value.{Value}
use Rattle.words_values.specs.declared.rows.Value.TheVariants.{Number, LongNumber}
use Rattle.words_values.specs.NumberWord.{IsRead}
use Rattle.words_values.proofs.NumberWords.{none_is_some, same_some}
use Rattle.words_values.proofs.numbers.number_in.Goals as goal

pub returns-in_err-number_word-in-Number-clause-accepts :
    goal.returns-in_err-number_word-in-Number-clause-accepts
returns-in_err-number_word-in-Number-clause-accepts c = λ n r.
    let q : IsRead Number c.args.word.now n = subst (λ (v : Value). IsRead v c.args.word.now n) c.in-Number.is r in
    absurd (none_is_some n (c.in_err-number_word-in-Number.ensures.accepts n q.0 (omega (arith, q.1))))

pub returns-in_ok-number_word-in-Number-clause-accepts :
    goal.returns-in_ok-number_word-in-Number-clause-accepts
returns-in_ok-number_word-in-Number-clause-accepts c = λ n r.
    let q : IsRead Number c.args.word.now n = subst (λ (v : Value). IsRead v c.args.word.now n) c.in-Number.is r in
    let e : c.in_ok-number_word-in-Number.field-0 ≡ n =
    same_some _ n (c.in_ok-number_word-in-Number.ensures.accepts n q.0 (omega (arith, q.1))) in
    let l : c.in_ok-number_word-in-Number.field-0 < 2 ^ 32 = omega (arith, e, q.1) in
    c.narrow.ensures.accepts l ∙ ap Some e

pub returns-in-LongNumber-clause-accepts : goal.returns-in-LongNumber-clause-accepts
returns-in-LongNumber-clause-accepts c = λ n r.
    let q : IsRead LongNumber c.args.word.now n =
    subst (λ (v : Value). IsRead v c.args.word.now n) c.in-LongNumber.is r in
    c.number_word-in-LongNumber.ensures.accepts n q.0 q.1
