use Rattle.sys_text.proofs.Printing.{printed_none}
use Rattle.sys_text.proofs.text_output.Text.end_shown_line.Goals as goal

pub returns-then-len-self : goal.returns-then-len-self
returns-then-len-self g c = printed_none _ _ _
