use Rattle.std.proofs.Common.{[], refl}
use Rattle.sys_text.proofs.Printing.{both_printed, held_more}
use Rattle.sys_text.proofs.text_output.Text.put_some.Goals as goal

pub returns-then-len-lt-ROOM-clause-prints : goal.returns-then-len-lt-ROOM-clause-prints
returns-then-len-lt-ROOM-clause-prints g c =
    held_more g.O.Output.written g.O.Output.write_faults _ _ _ refl refl c.put.ensures.text

pub returns-clause-prints : goal.returns-clause-prints
returns-clause-prints g c =
    let o = g.O.Output.written in
    let faults = g.O.Output.write_faults in
    both_printed o faults c.args.self.now c.send.new.self _ [] _ c.send.ensures.prints
    (held_more o faults _ _ _ refl refl c.put-2.ensures.text)
