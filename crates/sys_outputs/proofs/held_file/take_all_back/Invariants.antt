use Rattle.sys_outputs.specs.Late.{TakesBack}
use Rattle.sys_outputs.proofs.held_file.take_all_back.Given as goal

abbrev pub invariant-loop-one : goal.invariant-loop-one
invariant-loop-one g l = TakesBack g.F.SystemFile.models l.sent (g.F.SystemFile.stands l.fn.file)
    (g.F.SystemFile.stands l.file) l.fn.held.items l.held.items
