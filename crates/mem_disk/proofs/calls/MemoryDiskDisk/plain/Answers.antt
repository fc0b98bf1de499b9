use Rattle.mem_disk.proofs.Files.{creates_path}
use Rattle.mem_disk.proofs.calls.MemoryDiskDisk.plain.Goals as goal

pub returns-in-Err : goal.returns-in-Err
returns-in-Err c = creates_path _ _ _ _ _ _ _ _ c.in-Err.ensures.begins.refused c.refused.ensures.counts
