use Rattle.std.proofs.Common.{◌≡◌, ◌==◌, false, slice_index, arith, sym}
use Rattle.std.proofs.lemmas.Bool.{eqb-false}
use Rattle.cmd_common_fields.proofs.OsWords.{number_value, number_accepts}
use Rattle.cmd_common_fields.proofs.os_word.number.Goals as goal

pub returns-clause-value : goal.returns-clause-value
returns-clause-value c =
    let first : false ≡ (slice_index c.args.digits.now 0 == 43) =
    c.if-starts_with.ensures.byte (omega arith) (omega arith) (λ w o h. h) in
    number_value c.args.digits.now c.parse.result c.ok.result c.parse.ensures.value.0
    (eqb-false _ 43 (sym first)) c.ok.ensures.value

pub returns-clause-accepts : goal.returns-clause-accepts
returns-clause-accepts c =
    let first : false ≡ (slice_index c.args.digits.now 0 == 43) =
    c.if-starts_with.ensures.byte (omega arith) (omega arith) (λ w o h. h) in
    number_accepts c.args.digits.now c.parse.result c.ok.result c.parse.ensures.value.0
    (eqb-false _ 43 (sym first)) c.ok.ensures.value
