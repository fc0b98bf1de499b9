use Rattle.std.proofs.Common.{refl}
use Rattle.cmd_pack_inputs.specs.Opening.{no_text}
use Rattle.cmd_pack_inputs.proofs.parts.open_file.Goals as goal

pub returns-in-Err-clause-refused : goal.returns-in-Err-clause-refused
returns-in-Err-clause-refused g c = λ t. no_text c.args.path.now refl c.in-Err.ensures.cases.0 c.at.ensures
