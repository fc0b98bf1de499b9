use Rattle.sys_text.proofs.Calls.{after_text_and}
use Rattle.sys_text.proofs.text_output.Text.line.Goals as goal

pub returns-in-Ok : goal.returns-in-Ok
returns-in-Ok g c =
    after_text_and g.O.Output.written g.O.Output.write_faults c.args.self.now _ c.writeln.new.self
    c.end_shown_line.new.self c.end_shown_line.result
    c.in-Ok.ensures.writes c.end_shown_line.ensures
