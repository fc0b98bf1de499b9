use Rattle.std.proofs.Common.{◌≡◌, length, take}
use Rattle.std.specs.Prelude.{IsTrue, map}
use Rattle.abt_sections.specs.Cause.{total}
use Rattle.cmd_common_boot.specs.declared.part_rows.PartRow.{PartRow}
use Rattle.cmd_pack_inputs.specs.Opening.{OpensMore}
use Rattle.cmd_pack_inputs.specs.Own.{IsOwnPart}
use Rattle.cmd_pack_inputs.specs.Parts.{ArePartsOf, IsPartInput}
use Rattle.cmd_common_boot.specs.Sources.{content_of, faults_of}
use Rattle.cmd_pack_inputs.proofs.parts.open_parts.Given as goal

abbrev pub invariant-loop-row : goal.invariant-loop-row
invariant-loop-row g l = (length l.parts.items ≡ l.row-index) × (IsTrue g.D.Disk.models →
    ArePartsOf (g.D.Disk.world l.initial.disk) l.texts.options.items (IsOwnPart g.D.At.Source.content l.own)
    (map (λ (r : PartRow). r.section) (take l.row-index l.rows)) (map (content_of g.D.At.Source.content) l.parts.items)
    × (total (faults_of g.D.At.Source.read_faults) l.parts.items ≡ 0)
    × OpensMore (IsPartInput l.texts.options.items (map (λ (r : PartRow). r.section) (take l.row-index l.rows)))
    (g.D.Disk.world l.initial.disk) (g.D.Disk.held l.initial.disk) (g.D.Disk.held l.disk)
    × (g.D.Disk.world l.disk ≡ g.D.Disk.world l.initial.disk))
