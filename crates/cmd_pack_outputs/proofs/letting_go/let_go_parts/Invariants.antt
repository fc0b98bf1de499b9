use Rattle.std.proofs.Common.{◌≡◌, ◌+◌, ℕ}
use Rattle.std.specs.Prelude.{IsTrue, length}
use Rattle.sys_disk.specs.Counts.{reads}
use Rattle.sys_disk.specs.World.{counting}
use Rattle.abt_sections.specs.Cause.{total}
use Rattle.cmd_common_boot.specs.Sources.{faults_of}
use Rattle.cmd_pack_outputs.proofs.letting_go.let_go_parts.Given as goal

abbrev pub invariant-loop-part : goal.invariant-loop-part
invariant-loop-part g l = IsTrue g.D.Disk.models → (given : ℕ) × (n : ℕ)
    × (g.D.Disk.held l.disk ≡ counting (reads given n) (g.D.Disk.held l.initial.disk))
    × (given + total (faults_of g.D.At.Source.given) l.parts.items
    ≡ total (faults_of g.D.At.Source.given) l.initial.parts.items)
    × (n + total (faults_of g.D.At.Source.read_faults) l.parts.items
    ≡ total (faults_of g.D.At.Source.read_faults) l.initial.parts.items)
    × (g.D.Disk.world l.disk ≡ g.D.Disk.world l.initial.disk)

abbrev pub decreases-loop-part : goal.decreases-loop-part
decreases-loop-part g l = length l.parts.items
