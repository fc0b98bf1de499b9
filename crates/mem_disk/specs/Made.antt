-- The outputs that a disk in memory opens.
use Rattle.std.specs.Prelude.{◌≡◌, ℕ, List, [], Result, IfOk, OnOk, OnErr, replicate}
use Rattle.abt_io.specs.Moment.{past_of_file}
use Rattle.sys_disk.specs.InPlace.{MakesPlace}
use Rattle.sys_disk.specs.World.{number_of}
use Rattle.mem_disk.specs.Memory.{world_of, held_of, IsUnused, OpensOutput, RefusesAt}
use Rattle.mem_disk.specs.declared.disk.MemoryDisk.{MemoryDisk}
use Rattle.mem_disk.specs.declared.output.MemoryOutput.{MemoryOutput}
use Rattle.mem_disk.specs.declared.partition.MemoryPartition.{MemoryPartition}

-- an output that holds nothing, of the file at this path
pub record CreatesMemory {E : Type 0} (r : Result MemoryOutput E) (path : List ℕ) (old new : MemoryDisk) : Type 0 where
  pub unused : IfOk r (λ onto. IsUnused [] onto.bytes.items onto.failed)
  pub this : IfOk r (λ onto. onto.file ≡ number_of new.output)
  pub begins : OpensOutput r path old new

-- this many zeros, of the file at this path
pub record MakesMemory {E : Type 0} (r : Result MemoryPartition E) (n : ℕ) (path : List ℕ) (old new : MemoryDisk)
    : Type 0 where
  pub made : OnOk r (MakesPlace path (held_of old) (held_of new) (world_of old) (world_of new))
  pub zeros : IfOk r (λ part. part.bytes.items ≡ replicate n 0)
  pub unused : IfOk r (λ part. IsUnused (past_of_file (number_of new.part)) part.history.past part.failed)
  pub refused : OnErr r (RefusesAt path old new)
