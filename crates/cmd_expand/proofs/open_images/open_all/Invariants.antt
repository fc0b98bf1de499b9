use Rattle.std.proofs.Common.{◌≡◌, map, min, take}
use Rattle.std.specs.Prelude.{IsTrue}
use Rattle.std.specs.List.{AllByRecursion}
use Rattle.cmd_common_sparse.specs.ImagePath.{image_path}
use Rattle.cmd_expand.specs.CutOf.{TellsPieces}
use Rattle.cmd_expand.specs.Overlaying.{AreInTurn}
use Rattle.cmd_expand.specs.Steps.{AreOpened, IsShapeOf}
use Rattle.cmd_expand.proofs.open_images.open_all.Given as goal

abbrev pub invariant-loop-input : goal.invariant-loop-input
invariant-loop-input g l = record {
  count : l.all.count ≡ min l.input-index 4294967295;
  opened : IsTrue g.D.Disk.models → AreOpened (g.D.Disk.world l.initial.disk)
      (map (λ word. image_path word.now) (take l.input-index l.inputs))
      (map (λ kept. g.D.At.Source.content kept.source) l.all.kept.items) (g.D.Disk.held l.initial.disk)
      (g.D.Disk.held l.disk);
  shape : IsTrue g.D.Disk.models →
      IsShapeOf l.all.shape (map (λ kept. g.D.At.Source.content kept.source) l.all.kept.items);
  clean : IsTrue g.D.Disk.models → AllByRecursion (λ kept. g.D.At.Source.read_faults kept.source ≡ 0) l.all.kept.items;
  pieces : IsTrue g.D.Disk.models → TellsPieces (g.D.Disk.world l.initial.disk)
      (map (λ kept. kept.piece) l.all.kept.items) (map (λ word. image_path word.now) (take l.input-index l.inputs));
  turn : IsTrue g.D.Disk.models → AreInTurn (map (λ word. image_path word.now) (take l.input-index l.inputs))
      (g.D.Disk.world l.initial.disk);
  world : IsTrue g.D.Disk.models → g.D.Disk.world l.disk ≡ g.D.Disk.world l.initial.disk;
}
