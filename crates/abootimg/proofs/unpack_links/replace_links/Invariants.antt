use Rattle.std.specs.Prelude.{IsTrue}
use Rattle.abootimg.specs.Stored.{KeepsStored, NothingFails}
use Rattle.abootimg.proofs.unpack_links.replace_links.Given as goal

abbrev pub invariant-loop-link : goal.invariant-loop-link
invariant-loop-link g l = record {
  kept : IsTrue g.S.Disk.Disk.models → KeepsStored (g.S.Storage.its l.initial.storage) (g.S.Storage.its l.storage);
  clean : IsTrue g.S.Disk.Disk.models → NothingFails (g.S.Storage.its l.initial.storage) (g.S.Storage.its l.storage);
}
