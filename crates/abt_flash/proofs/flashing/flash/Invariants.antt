use Rattle.std.proofs.Common.{length, ◌<◌, ◌-◌, ◌≡◌, ◌≤◌, ◌+◌, ◌*◌, drop, max}
use Rattle.std.specs.Prelude.{IsTrue}
use Rattle.abt_chunks.specs.Turns.{todo}
use Rattle.abt_flash.specs.Stepping.{Goes, IsFresh, need_of}
use Rattle.abt_chunks.specs.declared.walk.Phase.TheVariants as phases
use Rattle.abt_flash.proofs.Come.{Come}
use Rattle.abt_flash.proofs.flashing.flash.Given as goal
use Rattle.abt_flash.specs.Devices.{LeavesUnread}
use Rattle.abt_chunks.specs.ListingAhead.{idle}

abbrev pub invariant-steps : goal.invariant-steps
invariant-steps g l =
    let got = g.I.Input.given in
    let remaining = g.I.Input.remaining in
    let content = g.P.Source.content in
    let past = g.P.Partition.past in
    let took = g.P.Partition.taken in
    record {
      read : got l.fn.input ≤ got l.input;
      present : IsTrue g.I.Input.models → got l.input - got l.fn.input ≤ length (remaining l.fn.input);
      rest : IsTrue g.I.Input.models → remaining l.input ≡ drop (got l.input - got l.fn.input) (remaining l.fn.input);
      goes : Goes l.machine.stage l.machine.walk.phase;
      told : IsTrue g.I.Input.models → Come g.P.Source.models l.machine.walk (got l.input - got l.fn.input)
          (remaining l.fn.input) (g.P.Source.size l.fn.partition) (past l.fn.partition) (past l.partition)
          (content l.fn.partition) (content l.partition) (took l.fn.partition) (took l.partition) l.machine.laid;
      fresh : IsFresh l.machine.walk → l.partition ≡ l.fn.partition;
      measured : l.machine.walk.phase ≡ phases.Body → 0 < l.machine.walk.index
          → need_of l.machine.walk ≤ g.P.Source.size l.fn.partition;
      synced : (past l.partition).synced ≡ (past l.fn.partition).synced;
      unread : LeavesUnread g.P.Source l.fn.partition l.partition;
      taken : took l.fn.partition ≤ took l.partition;
      frame : g.I.Input.read_frame l.input ≡ g.I.Input.read_frame l.fn.input;
      read_faults : g.I.Input.read_faults l.input ≡ g.I.Input.read_faults l.fn.input;
      put_faults : g.P.Partition.put_faults l.partition ≡ g.P.Partition.put_faults l.fn.partition;
      syncs : g.P.Partition.syncs l.partition ≡ g.P.Partition.syncs l.fn.partition;
      calls : g.I.Input.reads l.input + g.P.Partition.puts l.partition + g.P.Partition.syncs l.partition + 2
          * idle l.machine.walk + 8 * got l.fn.input + 8 * took l.fn.partition ≤ g.I.Input.reads l.fn.input
          + g.P.Partition.puts l.fn.partition + g.P.Partition.syncs l.fn.partition + 8 * got l.input + 8
          * took l.partition;
      turns : l.m.turns.number + 3 * idle l.machine.walk + 8 * got l.fn.input + 8 * took l.fn.partition
          ≤ l.fn.m.turns.number + 8 * got l.input + 8 * took l.partition;
      steps : got l.input + 65580 * l.fn.m.steps.number ≤ got l.fn.input + 65580 * l.m.steps.number;
      greatest : l.m.greatest.number ≤ max l.fn.m.greatest.number 65580;
    }

abbrev pub decreases-steps : goal.decreases-steps
decreases-steps g l = todo l.machine.walk
