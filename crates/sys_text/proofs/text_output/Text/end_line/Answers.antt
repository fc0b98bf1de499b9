use Rattle.std.proofs.Common.{[], ◌∷◌}
use Rattle.sys_text.proofs.Printing.{both_printed}
use Rattle.sys_text.proofs.text_output.Text.end_line.Goals as goal

pub returns : goal.returns
returns g c = both_printed g.O.Output.written g.O.Output.write_faults c.args.self.now c.put.new.self c.send.new.self
    (10 ∷ []) [] c.put.ensures c.send.ensures.prints
