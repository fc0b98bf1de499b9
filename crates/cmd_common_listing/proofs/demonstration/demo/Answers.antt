use Rattle.std.proofs.Common.{◌-◌, ◌++◌, List, ℕ, length, take, ap, ◌∙◌}
use Rattle.cmd_common_listing.proofs.Demonstrated.{line_is}
use Rattle.cmd_common_listing.proofs.demonstration.demo.Goals as goal

pub returns-in-Ok-clause-line : goal.returns-in-Ok-clause-line
returns-in-Ok-clause-line g c =
    c.in-Ok.ensures.ok ∙ ap (λ (l : List ℕ). g.O.Output.written c.args.out.now
    ++ l) (line_is _ _ c.line_of-line.ensures c.expanded-bytes.ensures)

pub returns-in-Ok-clause-front : goal.returns-in-Ok-clause-front
returns-in-Ok-clause-front g c =
    let before = g.O.Output.written c.args.out.now in
    c.in-Ok.ensures.front
    ∙ ap (λ (l : List ℕ). before ++ take (length (g.O.Output.written c.write_out.new.output) - length before) l)
    (line_is _ _ c.line_of-line.ensures c.expanded-bytes.ensures)

pub returns-in-Err-clause-front : goal.returns-in-Err-clause-front
returns-in-Err-clause-front g c =
    let before = g.O.Output.written c.args.out.now in
    c.in-Err.ensures.front
    ∙ ap (λ (l : List ℕ). before ++ take (length (g.O.Output.written c.write_out.new.output) - length before) l)
    (line_is _ _ c.line_of-line.ensures c.expanded-bytes.ensures)
