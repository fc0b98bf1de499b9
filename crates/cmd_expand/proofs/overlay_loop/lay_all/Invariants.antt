use Rattle.std.proofs.Common.{◌≡◌, ℕ, ◌+◌, [], length, map}
use Rattle.std.specs.Prelude.{IsTrue}
use Rattle.std.specs.List.{AllByRecursion}
use Rattle.abt_sparse.specs.Pieces.{flashed_in_turn}
use Rattle.sys_disk.specs.World.{HasNotFailed}
use Rattle.cmd_expand.specs.Overlaying.{IsImageOf}
use Rattle.cmd_expand.specs.Steps.{AreLaidBefore, FailsAlone}
use Rattle.cmd_expand.proofs.overlay_loop.lay_all.Given as goal

abbrev pub decreases-images : goal.decreases-images
decreases-images g l = length l.kept.items

abbrev pub invariant-images : goal.invariant-images
invariant-images g l = record {
  size : g.D.InPlace.Source.size l.onto ≡ g.D.InPlace.Source.size l.initial.onto;
  same : IsTrue g.D.Disk.models
      → (g.D.InPlace.Partition.past l.onto).file ≡ (g.D.InPlace.Partition.past l.initial.onto).file;
  synced : (g.D.InPlace.Partition.past l.onto).synced + length l.kept.items
      ≡ (g.D.InPlace.Partition.past l.initial.onto).synced + length l.initial.kept.items;
  laid : IsTrue g.D.Disk.models → flashed_in_turn (g.D.InPlace.Source.content l.onto)
      (map (λ one. g.D.At.Source.content one.source) l.kept.items)
      ≡ flashed_in_turn (g.D.InPlace.Source.content l.initial.onto)
      (map (λ one. g.D.At.Source.content one.source) l.initial.kept.items);
  before : IsTrue g.D.Disk.models → AreLaidBefore (map (λ one. g.D.At.Source.content one.source) l.kept.items)
      (map (λ one. g.D.At.Source.content one.source) l.initial.kept.items)
      (g.D.InPlace.Source.content l.initial.onto) (g.D.InPlace.Source.content l.onto);
  settled : IsTrue g.D.Disk.models → (g.D.InPlace.Partition.past l.initial.onto).pending ≡ []
      → (g.D.InPlace.Partition.past l.onto).pending ≡ [];
  world : IsTrue g.D.Disk.models → g.D.Disk.world l.disk ≡ g.D.Disk.world l.initial.disk;
  held : IsTrue g.D.Disk.models → FailsAlone (g.D.Disk.held l.initial.disk) (g.D.Disk.held l.disk);
  clean : IsTrue g.D.Disk.models → AllByRecursion (λ one. g.D.At.Source.read_faults one.source ≡ 0) l.initial.kept.items
      → AllByRecursion (λ one. g.D.At.Source.read_faults one.source ≡ 0) l.kept.items
      × HasNotFailed (g.D.Disk.held l.initial.disk) (g.D.Disk.held l.disk)
      × (g.D.InPlace.Partition.put_faults l.onto ≡ g.D.InPlace.Partition.put_faults l.initial.onto);
  images : IsTrue g.D.Disk.models → (blocks block : ℕ)
      → AllByRecursion (IsImageOf blocks block) (map (λ one. g.D.At.Source.content one.source) l.initial.kept.items)
      → AllByRecursion (IsImageOf blocks block) (map (λ one. g.D.At.Source.content one.source) l.kept.items);
}
