use Rattle.std.proofs.Common.{rules}
use Rattle.mem_disk.proofs.Files.{most_put}
use Rattle.mem_disk.proofs.calls.MemoryDiskDisk.finish.Goals as goal

pub returns-then-is_refused : goal.returns-then-is_refused
returns-then-is_refused c = record {
  ended = λ _. tt;
  most = λ _. most_put _ _ _ _ _ _ _ c.add_written.ensures.held c.refused.ensures.counts.world c.put.ensures.ended;
  closed = λ _. search rules;
  rest = λ _. search rules;
  stream = λ _. tt;
}
