use Rattle.std.proofs.Common.{length, ◌-◌, ◌≡◌, ◌≤◌, ◌+◌, ◌*◌, replicate}
use Rattle.std.specs.Prelude.{IsTrue}
use Rattle.std.specs.List.{concat}
use Rattle.abt_io.specs.Moment.{Keeps, KeepsUnsynced, EachSince, in_range, moment_of, put_at}
use Rattle.abt_flash.proofs.write_part.lay_words.Given as goal

abbrev pub invariant-writes : goal.invariant-writes
invariant-writes g l =
    let content = g.P.Source.content in
    let past = g.P.Partition.past in
    record {
      within : l.done ≤ l.n;
      word : length l.fn.word ≡ 4;
      size : g.P.Source.size l.partition ≡ g.P.Source.size l.fn.partition;
      taken : g.P.Partition.taken l.partition ≡ g.P.Partition.taken l.fn.partition + 4 * l.done;
      written : IsTrue g.P.Source.models
          → content l.partition ≡ put_at (content l.fn.partition) l.at (concat (replicate l.done l.fn.word));
      kept : IsTrue g.P.Source.models
          → Keeps (in_range l.at (4 * l.n)) (moment_of (past l.fn.partition) (content l.fn.partition))
          (moment_of (past l.partition) (content l.partition));
      moments : IsTrue g.P.Source.models → EachSince (past l.fn.partition).moments (past l.partition).moments
          (KeepsUnsynced (in_range l.at (4 * l.n)) (moment_of (past l.fn.partition) (content l.fn.partition)));
      synced : (past l.partition).synced ≡ (past l.fn.partition).synced;
      reads : g.P.Source.reads l.partition ≡ g.P.Source.reads l.fn.partition;
      given : g.P.Source.given l.partition ≡ g.P.Source.given l.fn.partition;
      read_faults : g.P.Source.read_faults l.partition ≡ g.P.Source.read_faults l.fn.partition;
      syncs : g.P.Partition.syncs l.partition ≡ g.P.Partition.syncs l.fn.partition;
      faults : g.P.Partition.put_faults l.partition ≡ g.P.Partition.put_faults l.fn.partition;
      calls : g.P.Partition.puts l.partition ≤ g.P.Partition.puts l.fn.partition + 8 * l.done;
      turns : l.m.turns.number ≤ l.fn.m.turns.number + 14 + 6 * l.done;
      few : l.m.turns.number ≤ l.fn.m.turns.number + l.n + 6 * l.done;
      steps : l.m.steps.number ≡ l.fn.m.steps.number;
      greatest : l.m.greatest.number ≡ l.fn.m.greatest.number;
    }

abbrev pub decreases-writes : goal.decreases-writes
decreases-writes g l = l.n - l.done
