use Rattle.std.proofs.Common.{rules, ◌≡◌, ◌*◌, ◌∙◌, ap, inl, inr, refl}
use Rattle.words_values.proofs.NumberWords.{accepted_some, none_is_some, same_some}
use Rattle.words_values.proofs.numbers.decimal.Goals as goal

pub returns-in_err-digits_word-in-Some-clause-accepts : goal.returns-in_err-digits_word-in-Some-clause-accepts
returns-in_err-digits_word-in-Some-clause-accepts c = λ n d l.
    let cut = c.in-Some.ensures.value in
    let r = accepted_some _ _ _ cut.0 _ n cut.2 cut.1 d l c.in_err-digits_word-in-Some.ensures.accepts in
    absurd (none_is_some r.0 r.1)

pub returns-in_ok-digits_word-in-Some-clause-accepts : goal.returns-in_ok-digits_word-in-Some-clause-accepts
returns-in_ok-digits_word-in-Some-clause-accepts c = λ n d l.
    let cut = c.in-Some.ensures.value in
    let r = accepted_some _ _ _ cut.0 _ n cut.2 cut.1 d l c.in_ok-digits_word-in-Some.ensures.accepts in
    let k : c.in_ok-digits_word-in-Some.field-0 ≡ r.0 = same_some _ _ r.1 in
    let v : c.in_ok-digits_word-in-Some.field-0 * c.in-Some.scale ≡ n = ap (λ j. j * c.in-Some.scale) k ∙ r.2 in
    search (rules, v)

pub returns-in-None-clause-accepts : goal.returns-in-None-clause-accepts
returns-in-None-clause-accepts c = λ n d l. elim d [
  | inl w ↦ c.digits_word-in-None.ensures.accepts n w l
  | inr p ↦ absurd (c.in-None.ensures.none refl p.digits p.letter p.scale p.is_scale p.parts)
]
