use Rattle.std.proofs.Common.{refl}
use Rattle.std.specs.Fmt.{digits}
use Rattle.cmd_unpack_aosp_texts.proofs.files.listed.Goals as goal

pub returns-clause-names : goal.returns-clause-names
unfolding digits
returns-clause-names c = refl
