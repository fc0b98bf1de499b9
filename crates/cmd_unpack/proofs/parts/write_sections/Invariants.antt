use Rattle.std.proofs.Common.{◌≤◌, map, take}
use Rattle.std.specs.Prelude.{IsTrue}
use Rattle.sys_report.specs.Shows.{refusals}
use Rattle.abt_sections.specs.Header.{places_of, view_of}
use Rattle.cmd_unpack.specs.Lines.{ShowsEach, told_section}
use Rattle.cmd_unpack.specs.Unpacking.{IsSectionPath, SectionsDone, path_of_part}
use Rattle.cmd_unpack.proofs.UnpackSteps.{Written}
use Rattle.cmd_unpack.proofs.parts.write_sections.Given as goal

abbrev pub invariant-loop-i : goal.invariant-loop-i
invariant-loop-i g l =
    let h = view_of l.image.header in
    record {
      shown : IsTrue g.D.Disk.models → ShowsEach (λ part. g.D.Disk.on_output (path_of_part l.folder part))
          (map told_section (take l.i (places_of h))) l.initial.report l.report;
      rises : refusals l.initial.report ≤ refusals l.report;
      told : IsTrue g.D.Disk.models
          → Written l.i (IsSectionPath l.folder h l.i) g.D.At.Source l.initial.source l.source
          (g.D.Disk.held l.initial.disk) (g.D.Disk.held l.disk) (g.D.Disk.world l.initial.disk) (g.D.Disk.world l.disk)
          × SectionsDone l.folder h (g.D.At.Source.content l.initial.source) l.i (g.D.Disk.held l.disk)
          (g.D.Disk.world l.disk);
    }
