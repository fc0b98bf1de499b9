use Rattle.mem_system.proofs.Parts.{part_within, tears}
use Rattle.mem_system.proofs.copied_file.CopiedFile.failed.Goals as goal

pub returns-then-is_ok-clause-writes : goal.returns-then-is_ok-clause-writes
returns-then-is_ok-clause-writes c =
    tears _ _ _ _ _ _ _ c.requires.stands (part_within _ c.args.bytes.now) c.write_at.ensures.writes

pub returns-else-is_ok-clause-writes : goal.returns-else-is_ok-clause-writes
returns-else-is_ok-clause-writes c =
    tears _ _ _ _ _ _ _ c.requires.stands (part_within _ c.args.bytes.now) c.write_at.ensures.writes
