use Rattle.std.proofs.Common.{refl}
use Rattle.cmd_pack_inputs.specs.Judging.{untaken}
use Rattle.cmd_pack_inputs.proofs.kept.judged.Goals as goal

pub returns-in-Err-clause-refused : goal.returns-in-Err-clause-refused
returns-in-Err-clause-refused g c = λ models opened. untaken c.in-Err.fault refl c.in-Err.ensures.wrong
