use Rattle.std.specs.Prelude.{IsTrue}
use Rattle.abootimg.specs.Stored.{KeepsStored, NothingFails, stored}
use Rattle.abootimg.proofs.unpack_links.refuse_links.Given as goal

abbrev pub invariant-loop-link : goal.invariant-loop-link
invariant-loop-link g l = record {
  kept : IsTrue g.D.Disk.models
      → KeepsStored (stored (g.D.Disk.world l.initial.disk) (g.D.Disk.held l.initial.disk))
      (stored (g.D.Disk.world l.disk) (g.D.Disk.held l.disk));
  clean : IsTrue g.D.Disk.models
      → NothingFails (stored (g.D.Disk.world l.initial.disk) (g.D.Disk.held l.initial.disk))
      (stored (g.D.Disk.world l.disk) (g.D.Disk.held l.disk));
}
