use Rattle.std.proofs.Common.{inl, inr, refl}
use Rattle.words_values.proofs.NumberWords.{hex_is_no_decimal, hex_digits}
use Rattle.words_values.proofs.numbers.number_word.Goals as goal

pub returns-in-Some-clause-accepts : goal.returns-in-Some-clause-accepts
returns-in-Some-clause-accepts c = λ n w l. elim w [
  | inl d ↦ absurd (hex_is_no_decimal _ _ n c.in-Some.ensures.value d)
  | inr p ↦ c.digits_word.ensures.accepts n (hex_digits _ _ _ n p.parts c.in-Some.ensures.value p.is_number) l
]

pub returns-in-None-clause-accepts : goal.returns-in-None-clause-accepts
returns-in-None-clause-accepts c = λ n w l. elim w [
  | inl d ↦ c.decimal.ensures.accepts n d l
  | inr p ↦ absurd (c.in-None.ensures.none refl p.digits p.parts)
]
