use Rattle.std.proofs.Common.{ℕ}
use Rattle.std.specs.Prelude.{IsTrue}
use Rattle.abt_sections.specs.Header.{view_of}
use Rattle.cmd_unpack.proofs.UnpackSteps.{Written}
use Rattle.cmd_unpack_aosp.specs.AospFiles.{FilesDone, IsFilePath}
use Rattle.cmd_unpack_aosp.proofs.unpack.write_files.Given as goal

abbrev pub invariant-loop-i : goal.invariant-loop-i
invariant-loop-i g l =
    let h = view_of l.image.header in
    IsTrue g.D.Disk.models
    → ((n : ℕ) × Written n (IsFilePath l.folder h l.i) g.D.At.Source l.initial.source l.source
    (g.D.Disk.held l.initial.disk) (g.D.Disk.held l.disk) (g.D.Disk.world l.initial.disk) (g.D.Disk.world l.disk))
    × FilesDone l.folder h (g.D.At.Source.content l.initial.source) l.i (g.D.Disk.held l.disk) (g.D.Disk.world l.disk)
