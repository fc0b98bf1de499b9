use Rattle.std.proofs.Common.{refl}
use Rattle.mem_disk.proofs.Files.{refuses_at}
use Rattle.mem_disk.proofs.disk.MemoryDisk.spool_at.Goals as goal

pub returns-in-Err-clause-refused : goal.returns-in-Err-clause-refused
returns-in-Err-clause-refused c = refuses_at _ _ _ _ _ refl refl c.in-Ok.ensures c.in-Err.ensures.refused
