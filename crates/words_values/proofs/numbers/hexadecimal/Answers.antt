use Rattle.std.proofs.Common.{◌∷◌, Some, None, arith}
use Rattle.std.proofs.lemmas.Str.Pattern.{strip_prefix_char}
use Rattle.words_values.proofs.NumberWords.{none_behind, second_letter}
use Rattle.words_values.proofs.numbers.hexadecimal.Goals as goal

pub returns-in_err-strip_prefix-clause-none : goal.returns-in_err-strip_prefix-clause-none
returns-in_err-strip_prefix-clause-none c = λ none digits e.
    strip_prefix_char 48 c.args.word.now None c.in_err-strip_prefix.ensures.cases (omega arith) (120 ∷ digits) e

pub returns-clause-none : goal.returns-clause-none
returns-clause-none c = λ none digits e.
    let front = strip_prefix_char 48 c.args.word.now
    (Some c.in_ok-strip_prefix.field-0) c.in_ok-strip_prefix.ensures.cases (omega arith) in
    let behind = strip_prefix_char 120 c.in_ok-strip_prefix.field-0.now c.strip_prefix-2.result
    c.strip_prefix-2.ensures.cases (omega arith) in
    none_behind _ 120 _ behind none digits (second_letter _ _ _ front e)
