use Rattle.std.proofs.Common.{◌≡◌, take}
use Rattle.std.specs.Prelude.{IsTrue, map}
use Rattle.abt_sections.specs.Cause.{total}
use Rattle.cmd_pack_inputs.specs.Opening.{OpensMore}
use Rattle.cmd_pack_inputs.specs.Parts.{AreFragmentsOf, IsFragmentInput}
use Rattle.cmd_common_boot.specs.Sources.{content_of, faults_of}
use Rattle.cmd_pack_inputs.proofs.ramdisks.open_fragments.Given as goal

abbrev pub invariant-loop-fragment : goal.invariant-loop-fragment
invariant-loop-fragment g l = IsTrue g.D.Disk.models →
    AreFragmentsOf (g.D.Disk.world l.initial.disk) (take l.fragment-index l.texts.fragments.items)
    l.ramdisks.specs.items (map (content_of g.D.At.Source.content) l.ramdisks.sources.items)
    × (total (faults_of g.D.At.Source.read_faults) l.ramdisks.sources.items ≡ 0)
    × OpensMore (IsFragmentInput (take l.fragment-index l.texts.fragments.items))
    (g.D.Disk.world l.initial.disk) (g.D.Disk.held l.initial.disk) (g.D.Disk.held l.disk)
    × (g.D.Disk.world l.disk ≡ g.D.Disk.world l.initial.disk)
