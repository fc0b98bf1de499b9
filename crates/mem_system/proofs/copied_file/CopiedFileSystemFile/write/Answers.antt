use Rattle.mem_system.proofs.Parts.{fails_more, part_within}
use Rattle.mem_system.proofs.copied_file.CopiedFileSystemFile.write.Goals as goal

pub returns-in-Err-write-clause-writes : goal.returns-in-Err-write-clause-writes
returns-in-Err-write-clause-writes c =
    fails_more _ _ _ _ _ _ (part_within _ c.args.bytes.now) c.in-Err-write.ensures.writes
