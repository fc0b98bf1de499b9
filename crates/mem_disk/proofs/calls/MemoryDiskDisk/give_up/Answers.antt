use Rattle.mem_disk.proofs.Files.{lets_go_put}
use Rattle.mem_disk.proofs.calls.MemoryDiskDisk.give_up.Goals as goal

pub returns : goal.returns
returns c = λ _. lets_go_put _ _ _ _ _ _ _ _ c.add_written.ensures.held c.add_written.ensures.world
    c.put.ensures.closed c.put.ensures.rest c.put.ensures.ended
