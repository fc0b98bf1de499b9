use Rattle.std.proofs.Common.{rules}
use Rattle.mem_disk.specs.Memory.{world_of}
use Rattle.mem_disk.proofs.Files.{only_then, begun_then, guarded_then}
use Rattle.mem_disk.proofs.calls.MemoryDiskDisk.zeros.Goals as goal

pub returns-in-Err : goal.returns-in-Err
returns-in-Err c = record {
  made = λ _. tt;
  zeros = λ _. tt;
  past = λ _. tt;
  clean = λ _. tt;
  kept = λ _. search rules;
  only = λ _. only_then _ _ _ _ _ c.refused.ensures.counts.world c.in-Err.ensures.refused.only;
  begun = λ _. begun_then _ (world_of c.args.self.now) (world_of c.zeros_at.new.self)
      (world_of c.refused.new.self) c.refused.ensures.counts.world c.in-Err.ensures.refused.same;
  guarded = λ _. guarded_then _ c.args.self.now c.zeros_at.new.self (world_of c.refused.new.self)
      c.refused.ensures.counts.world c.in-Err.ensures.refused;
}
