use Rattle.std.proofs.Common.{arith, rules}
use Rattle.mem_files.proofs.Paths.{holds_new}
use Rattle.mem_disk.proofs.Files.{spares_set, there_set}
use Rattle.mem_disk.proofs.disk.MemoryDisk.fill.Goals as goal

pub returns : goal.returns
returns c = record {
  held = search rules;
  refused = tt;
  free = search rules;
  fresh = search rules;
  present = there_set c.args.self.now.files.items c.args.file _ c.args.file
      (omega (arith, c.if-file-len.false, c.len.ensures));
  holds = holds_new c.args.self.now.files.items c.args.file _ (omega (arith, c.if-file-len.false, c.len.ensures));
  spares = spares_set _ _ _ _;
  paths = search rules;
}
