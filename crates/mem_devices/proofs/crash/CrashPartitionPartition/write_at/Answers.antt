use Rattle.mem_devices.proofs.Tracked.{tracked_more}
use Rattle.mem_devices.proofs.crash.CrashPartitionPartition.write_at.Goals as goal

pub invariant_of-self : goal.invariant_of-self
invariant_of-self c =
    let s = c.args.self.now in
    record {
      tracked = rw (c.write_at.ensures.bytes, c.fill.ensures.value, c.write_at.ensures.past)
          (tracked_more s.now.cells.bytes.now s.stable.bytes.now s.touched.bytes.now s.now.history.past.pending
          c.args.at
          c.args.bytes.now s.tracked c.requires.fits);
    }
