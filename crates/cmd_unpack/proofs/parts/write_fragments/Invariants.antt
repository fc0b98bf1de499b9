use Rattle.std.proofs.Common.{◌≤◌}
use Rattle.std.specs.Prelude.{IsTrue}
use Rattle.sys_report.specs.Shows.{refusals}
use Rattle.abt_sections.specs.Header.{view_of}
use Rattle.cmd_unpack.specs.Lines.{ShowsEach, told_fragments}
use Rattle.cmd_unpack.specs.Unpacking.{FragmentsDone, IsFragmentPath, path_of_part}
use Rattle.cmd_unpack.proofs.UnpackSteps.{Written}
use Rattle.cmd_unpack.proofs.parts.write_fragments.Given as goal

abbrev pub invariant-loop-i : goal.invariant-loop-i
invariant-loop-i g l =
    let h = view_of l.image.header in
    let x = g.D.At.Source.content l.initial.source in
    IsTrue g.D.Disk.models
    → Written l.i (IsFragmentPath l.folder h l.i) g.D.At.Source l.initial.source l.source
    (g.D.Disk.held l.initial.disk) (g.D.Disk.held l.disk) (g.D.Disk.world l.initial.disk) (g.D.Disk.world l.disk)
    × FragmentsDone l.folder h x l.i (g.D.Disk.held l.disk) (g.D.Disk.world l.disk)
    × ShowsEach (λ part. g.D.Disk.on_output (path_of_part l.folder part)) (told_fragments x h l.i) l.initial.report
    l.report
    × (refusals l.initial.report ≤ refusals l.report)
