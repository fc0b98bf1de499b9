use Rattle.std.proofs.Common.{◌∙◌, sym}
use Rattle.sys_numbered_names.proofs.Numbered.{is_written, unled, unread}
use Rattle.sys_numbered_names.proofs.names.number_of.Goals as goal

pub returns-then-not-is_led-clause-none : goal.returns-then-not-is_led-clause-none
returns-then-not-is_led-clause-none c = λ is n some small.
    unled c.args.digits.now n (sym c.is_led.ensures ∙ c.if-not-is_led.true) some small

pub returns-in-Ok-clause-some : goal.returns-in-Ok-clause-some
returns-in-Ok-clause-some c =
    is_written c.args.digits.now c.in-Ok.number (sym c.is_led.ensures ∙ c.if-not-is_led.false) c.in-Ok.ensures.value.0

pub returns-in-Err-clause-none : goal.returns-in-Err-clause-none
returns-in-Err-clause-none c = λ is n some small.
    unread c.args.digits.now c.parse.result _ n c.in-Err.is small c.parse.ensures.value.0
