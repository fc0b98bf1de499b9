use Rattle.std.proofs.Common.{rules}
use Rattle.test_buffers.proofs.file_spool.FileSpoolOutput.write.Goals as goal

pub invariant_of-self-in-Ok-clause-room : goal.invariant_of-self-in-Ok-clause-room
invariant_of-self-in-Ok-clause-room c = search rules
