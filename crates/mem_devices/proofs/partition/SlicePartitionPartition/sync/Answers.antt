use Rattle.std.proofs.Common.{rules}
use Rattle.abt_io.proofs.Moments.{one_settled}
use Rattle.mem_devices.proofs.partition.SlicePartitionPartition.sync.Goals as goal

pub returns-clause-settled : goal.returns-clause-settled
returns-clause-settled c = record {
  kept = λ models. search rules;
  settled = λ models. search rules;
  newest = λ models. search rules;
  stays = λ models. search rules;
  moments = λ models. one_settled c.args.self.now.history.past c.settled.new.self.past
      c.args.self.now.cells.bytes.now (search rules);
  synced = search rules;
}
