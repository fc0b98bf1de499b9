use Rattle.std.proofs.Common.{◌-◌, List, ℕ, ◌++◌, length, take, refl, ap, ◌∙◌, rules}
use Rattle.sys_text.proofs.Printing.{given_up, sent_part}
use Rattle.sys_text.proofs.text_output.Text.send.Goals as goal

pub returns-then-is_some-clause-prints : goal.returns-then-is_some-clause-prints
returns-then-is_some-clause-prints g c =
    given_up g.O.Output.written g.O.Output.write_faults _ _ (search rules) refl refl

pub returns-in-Err-clause-prints : goal.returns-in-Err-clause-prints
returns-in-Err-clause-prints g c =
    let o = g.O.Output.written in
    let e = c.in-Err.ensures in
    sent_part o g.O.Output.write_faults _ _ (length (o c.write_out.new.output) - length
    (o c.args.self.now.output.now)) (search rules) refl refl
    (e.front ∙ ap (λ (l : List ℕ). o c.args.self.now.output.now
    ++ take (length (o c.write_out.new.output) - length (o c.args.self.now.output.now)) l) c.all.ensures.value)
    e.cause
