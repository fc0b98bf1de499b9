use Rattle.std.proofs.Common.{refl}
use Rattle.mem_disk.proofs.Files.{refuses_at}
use Rattle.mem_disk.proofs.disk.MemoryDisk.raw_at.Goals as goal

pub returns-in-Err : goal.returns-in-Err
returns-in-Err c = record {
  unused = tt;
  this = tt;
  begins = record {
    created = tt;
    refused = refuses_at _ _ _ _ _ refl refl c.in-Ok.ensures c.in-Err.ensures.begins.refused;
  };
}
