use Rattle.std.proofs.Common.{length, ◌-◌, ◌≡◌, ◌≤◌, ◌+◌, take}
use Rattle.std.specs.Prelude.{IsTrue}
use Rattle.abt_io.specs.Moment.{Keeps, KeepsUnsynced, EachSince, in_range, moment_of, put_at}
use Rattle.abt_io.proofs.write_all.write_all_at.Given as goal

abbrev pub invariant-loop-done : goal.invariant-loop-done
invariant-loop-done g l =
    let content = g.P.Source.content in
    let past = g.P.Partition.past in
    record {
      within : l.done ≤ length l.bytes;
      size : g.P.Source.size l.partition ≡ g.P.Source.size l.fn.partition;
      written : IsTrue g.P.Source.models
          → content l.partition ≡ put_at (content l.fn.partition) l.at (take l.done l.bytes);
      kept : IsTrue g.P.Source.models
          → Keeps (in_range l.at (length l.bytes)) (moment_of (past l.fn.partition) (content l.fn.partition))
          (moment_of (past l.partition) (content l.partition));
      moments : IsTrue g.P.Source.models → EachSince (past l.fn.partition).moments (past l.partition).moments
          (KeepsUnsynced (in_range l.at (length l.bytes)) (moment_of (past l.fn.partition) (content l.fn.partition)));
      synced : (past l.partition).synced ≡ (past l.fn.partition).synced;
      calls : g.P.Partition.puts l.partition ≤ g.P.Partition.puts l.fn.partition + l.done;
      syncs : g.P.Partition.syncs l.partition ≡ g.P.Partition.syncs l.fn.partition;
      reads : g.P.Source.reads l.partition ≡ g.P.Source.reads l.fn.partition;
      given : g.P.Source.given l.partition ≡ g.P.Source.given l.fn.partition;
      read_faults : g.P.Source.read_faults l.partition ≡ g.P.Source.read_faults l.fn.partition;
      faults : g.P.Partition.put_faults l.partition ≡ g.P.Partition.put_faults l.fn.partition;
      taken : g.P.Partition.taken l.partition ≡ g.P.Partition.taken l.fn.partition + l.done;
      steps : l.m.steps.number ≡ l.fn.m.steps.number;
      greatest : l.m.greatest.number ≡ l.fn.m.greatest.number;
      turns : l.m.turns.number ≤ l.fn.m.turns.number + l.done;
    }

abbrev pub decreases-loop-done : goal.decreases-loop-done
decreases-loop-done g l = length l.bytes - l.done
