use Rattle.std.proofs.Common.{◌-◌, ◌+◌, ◌≡◌, ◌≤◌, take}
use Rattle.std.specs.Prelude.{IsTrue}
use Rattle.abt_io.specs.Moment.{put_at}
use Rattle.cmd_flash.proofs.flash_source.lay_source.Given as goal

abbrev pub invariant-loop-at : goal.invariant-loop-at
invariant-loop-at g l = record {
  within : l.at ≤ l.held;
  size : g.P.Source.size l.onto ≡ g.P.Source.size l.fn.onto;
  synced : (g.P.Partition.past l.onto).synced ≡ (g.P.Partition.past l.fn.onto).synced;
  same : IsTrue g.P.Source.models → (g.P.Partition.past l.onto).file ≡ (g.P.Partition.past l.fn.onto).file;
  read : g.S.Source.read_faults l.source ≡ g.S.Source.read_faults l.fn.source;
  put : g.P.Partition.put_faults l.onto ≡ g.P.Partition.put_faults l.fn.onto;
  given : g.S.Source.given l.source ≡ g.S.Source.given l.fn.source + l.at;
  taken : g.P.Partition.taken l.onto ≡ g.P.Partition.taken l.fn.onto + l.at;
  content : IsTrue g.S.Source.models → g.S.Source.content l.source ≡ g.S.Source.content l.fn.source;
  laid : IsTrue g.S.Source.models → IsTrue g.P.Source.models → g.P.Source.content l.onto
      ≡ put_at (g.P.Source.content l.fn.onto) 0 (take l.at (g.S.Source.content l.fn.source));
}

abbrev pub decreases-loop-at : goal.decreases-loop-at
decreases-loop-at g l = l.held - l.at
