use Rattle.std.proofs.Common.{sym}
use Rattle.sys_disk.specs.Counts.{no_counts}
use Rattle.cmd_common_boot.proofs.Calls.{same_counting}
use Rattle.cmd_unpack_aosp.proofs.unpack.refuse_part.Goals as goal

pub returns-in-Ok-None-clause-held : goal.returns-in-Ok-None-clause-held
returns-in-Ok-None-clause-held g c = λ t. (no_counts, sym (same_counting _))

pub returns-in-Err-clause-held : goal.returns-in-Err-clause-held
returns-in-Err-clause-held g c = λ t. (no_counts, sym (same_counting _))
