use Rattle.mem_disk.specs.Memory.{world_of}
use Rattle.mem_disk.proofs.Files.{only_then, begun_then, guarded_then}
use Rattle.mem_disk.proofs.Images.{empties_then}
use Rattle.mem_disk.proofs.calls.MemoryDiskDisk.image.Goals as goal

pub returns-in-Err-clause-only : goal.returns-in-Err-clause-only
returns-in-Err-clause-only c = λ _. only_then _ _ _ _ _ c.refused.ensures.counts.world
    c.in-Err.ensures.begins.refused.only

pub returns-in-Err-clause-empties : goal.returns-in-Err-clause-empties
returns-in-Err-clause-empties c = λ _. empties_then _ (world_of c.args.self.now) (world_of c.image_at.new.self)
    (world_of c.refused.new.self) c.refused.ensures.counts.world c.in-Err.ensures.empties

pub returns-in-Err-clause-begun : goal.returns-in-Err-clause-begun
returns-in-Err-clause-begun c = λ _. begun_then _ (world_of c.args.self.now) (world_of c.image_at.new.self)
    (world_of c.refused.new.self) c.refused.ensures.counts.world c.in-Err.ensures.begins.refused.same

pub returns-in-Err-clause-guarded : goal.returns-in-Err-clause-guarded
returns-in-Err-clause-guarded c = λ _. guarded_then _ c.args.self.now c.image_at.new.self
    (world_of c.refused.new.self) c.refused.ensures.counts.world c.in-Err.ensures.begins.refused
