use Rattle.sys_text.proofs.Calls.{after_text}
use Rattle.sys_text.proofs.text_output.Text.add.Goals as goal

pub returns-in-Ok : goal.returns-in-Ok
returns-in-Ok g c = after_text g.O.Output.written g.O.Output.write_faults _ _ _ c.in-Ok.ensures.writes
