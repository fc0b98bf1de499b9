use Rattle.mem_system.proofs.Parts.{fails_more, part_within}
use Rattle.mem_system.proofs.copied_file.CopiedFileSystemFile.write_at.Goals as goal

pub returns-in-Err-write_at-clause-writes : goal.returns-in-Err-write_at-clause-writes
returns-in-Err-write_at-clause-writes c =
    fails_more _ _ _ _ _ _ (part_within _ c.args.bytes.now) c.in-Err-write_at.ensures.writes
