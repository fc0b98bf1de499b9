use Rattle.std.proofs.Common.{◌≡◌, Some, None, rules, sym, ap, ◌∙◌, drop, take, length, ◌-◌}
use Rattle.cmd_common_fields.specs.Unescaped.{escape_in}
use Rattle.cmd_common_fields.proofs.Escapes.{next_escape, next_letter, to_end}
use Rattle.cmd_common_fields.proofs.unescaping.next_byte.Goals as goal

pub returns-in-Some-clause-value : goal.returns-in-Some-clause-value
returns-in-Some-clause-value c =
    let x = c.args.text.now in
    let found : escape_in (take (length x - c.args.at) (drop c.args.at x)) ≡ Some c.in-Some.byte = search rules in
    next_escape x c.args.at c.in-Some.byte (ap escape_in (sym (to_end x c.args.at)) ∙ found)

pub returns-in-None-clause-value : goal.returns-in-None-clause-value
returns-in-None-clause-value c =
    let x = c.args.text.now in
    let none : escape_in (take (length x - c.args.at) (drop c.args.at x)) ≡ None = search rules in
    next_letter x c.args.at c.requires (ap escape_in (sym (to_end x c.args.at)) ∙ none)
