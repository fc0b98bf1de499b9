use Rattle.std.proofs.Common.{Ok}
use Rattle.sys_host.proofs.Forward.{reads_known}
use Rattle.sys_host.proofs.origin.OriginRead.read.Goals as goal

pub returns-in-Some-clause-bytes : goal.returns-in-Some-clause-bytes
returns-in-Some-clause-bytes g c = reads_known _ _ _ _ _ (Ok c.in-Ok.n) _ c.in-Ok.ensures

pub returns-in_default-clause-bytes : goal.returns-in_default-clause-bytes
returns-in_default-clause-bytes g c = reads_known _ _ _ _ _ (Ok c.in-Ok.n) _ c.in-Ok.ensures
