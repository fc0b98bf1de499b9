use Rattle.mem_files.proofs.Paths.{holds_new}
use Rattle.mem_disk.proofs.Files.{spares_set}
use Rattle.mem_disk.proofs.disk.MemoryDisk.lay.Goals as goal

pub returns-clause-holds : goal.returns-clause-holds
returns-clause-holds c = holds_new c.args.self.now.files.items c.args.file _ c.requires

pub returns-clause-spares : goal.returns-clause-spares
returns-clause-spares c = spares_set _ c.args.self.now.files.items c.args.file _
