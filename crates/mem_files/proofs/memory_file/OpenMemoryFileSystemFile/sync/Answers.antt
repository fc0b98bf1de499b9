use Rattle.std.proofs.Common.{rules, refl}
use Rattle.abt_io.proofs.Moments.{one_settled}
use Rattle.mem_files.proofs.memory_file.OpenMemoryFileSystemFile.sync.Goals as goal

pub returns : goal.returns
returns c = λ models. record {
  same = refl;
  kept = search rules;
  settled = search rules;
  newest = search rules;
  stays = search rules;
  moments = one_settled c.args.self.now.history.past c.settled.new.self.past c.args.self.now.bytes.items (search rules);
  synced = search rules;
}
