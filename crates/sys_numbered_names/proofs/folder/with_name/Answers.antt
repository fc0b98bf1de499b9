use Rattle.std.proofs.Common.{◌∙◌, sym}
use Rattle.sys_numbered_names.proofs.Numbering.{misses, none_there, nothing_less, some_there, stays, takes_it}
use Rattle.sys_numbered_names.proofs.folder.with_name.Goals as goal

pub returns-in_default-clause-least : goal.returns-in_default-clause-least
returns-in_default-clause-least g c = λ t rest so.
    stays _ c.args.found.now c.args.name.now rest c.args.least c.number_behind.result c.args.behind
    (record { some = c.number_behind.ensures.some; none = c.number_behind.ensures.none })
    (nothing_less c.args.least c.number_behind.result c.args.behind (sym c.lesser-less.ensures ∙ c.in_default.is)) so

pub returns-then-is_least-clause-least : goal.returns-then-is_least-clause-least
returns-then-is_least-clause-least g c = λ t rest so.
    stays _ c.args.found.now c.args.name.now rest c.args.least c.number_behind.result c.args.behind
    (record { some = c.number_behind.ensures.some; none = c.number_behind.ensures.none })
    (sym c.lesser-less.ensures ∙ c.in-Some.is ∙ sym (c.is_least.ensures c.if-is_least.true)) so

pub returns-in-Ok-true-clause-least : goal.returns-in-Ok-true-clause-least
returns-in-Ok-true-clause-least g c = λ t rest so.
    takes_it _ c.args.found.now c.args.name.now rest c.args.least c.number_behind.result c.args.behind c.in-Some.number
    (record { some = c.number_behind.ensures.some; none = c.number_behind.ensures.none })
    (sym c.lesser-less.ensures ∙ c.in-Some.is)
    (some_there _ (sym (c.in-Ok-true.ensures t) ∙ c.in-Ok-true.field-0-test)) so

pub returns-in-Ok-false-clause-least : goal.returns-in-Ok-false-clause-least
returns-in-Ok-false-clause-least g c = λ t rest so.
    misses _ c.args.found.now c.args.name.now rest c.args.least c.number_behind.result c.args.behind c.in-Some.number
    (record { some = c.number_behind.ensures.some; none = c.number_behind.ensures.none })
    (sym c.lesser-less.ensures ∙ c.in-Some.is)
    (none_there _ (sym (c.in-Ok-false.ensures t) ∙ c.in-Ok-false.field-0-test)) so
