use Rattle.std.proofs.Common.{◌≡◌}
use Rattle.std.specs.Prelude.{IsTrue}
use Rattle.abt_sections.specs.Header.{view_of}
use Rattle.cmd_unpack_aosp.specs.AospFiles.{HaveFreeFiles}
use Rattle.cmd_unpack_aosp.proofs.unpack.refuse_taken.Given as goal

abbrev pub invariant-loop-i : goal.invariant-loop-i
invariant-loop-i g l = IsTrue g.D.Disk.models → record {
  held : g.D.Disk.held l.disk ≡ g.D.Disk.held l.initial.disk;
  world : g.D.Disk.world l.disk ≡ g.D.Disk.world l.initial.disk;
  free : HaveFreeFiles l.folder (view_of l.image.header) l.i (g.D.Disk.held l.initial.disk)
      (g.D.Disk.world l.initial.disk);
}
