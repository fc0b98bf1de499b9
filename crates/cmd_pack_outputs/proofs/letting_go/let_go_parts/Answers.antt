use Rattle.std.proofs.Common.{◌+◌, ◌≡◌, arith, refl, ◌∙◌, ap}
use Rattle.sys_disk.specs.Counts.{reads}
use Rattle.sys_disk.specs.World.{counting}
use Rattle.abt_sections.specs.Cause.{total}
use Rattle.cmd_common_boot.specs.Sources.{faults_of}
use Rattle.cmd_pack_outputs.proofs.Closes.{empty_total, pop_total, reads_none, reads_then}
use Rattle.cmd_pack_outputs.proofs.letting_go.let_go_parts.Goals as goal

pub loop-part-init : goal.loop-part-init
loop-part-init g c = λ t. (0, 0, reads_none _, omega arith, omega arith, refl)

pub loop-part-preserved : goal.loop-part-preserved
loop-part-preserved g c = λ t.
    let i = c.loop-part.invariant t in (
      i.0 + faults_of g.D.At.Source.given c.in-Some.part,
      i.1 + faults_of g.D.At.Source.read_faults c.in-Some.part,
      reads_then _ _ _ _ _ _ _ i.2 (c.let_go_part.ensures.fails.held t),
      omega (arith, i.3, pop_total (faults_of g.D.At.Source.given) _ _ c.in-Some.part c.in-Some.ensures.items),
      omega (arith, i.4, pop_total (faults_of g.D.At.Source.read_faults) _ _ c.in-Some.part c.in-Some.ensures.items),
      c.let_go_part.ensures.fails.world t ∙ i.5,
    )

pub returns : goal.returns
returns g c = record {
  fails = record {
    held = λ t.
        let i = c.loop-part.invariant t in
        let source = g.D.At.Source in
        let unread : total (faults_of source.given) c.loop-part.parts.items ≡ 0
        = empty_total (faults_of source.given) c.loop-part.parts.items
        (omega (arith, c.in_default.ensures.cases.0, c.loop-part.parts.ok.0)) in
        let none : total (faults_of source.read_faults) c.loop-part.parts.items ≡ 0
        = empty_total (faults_of source.read_faults) c.loop-part.parts.items
        (omega (arith, c.in_default.ensures.cases.0, c.loop-part.parts.ok.0)) in
        i.2 ∙ ap (λ k. counting (reads k i.1) (g.D.Disk.held c.args.disk.now)) (omega (arith, i.3, unread))
        ∙ ap (λ k. counting (reads (total (faults_of source.given) c.args.parts.items) k)
        (g.D.Disk.held c.args.disk.now)) (omega (arith, i.4, none));
    world = λ t. (c.loop-part.invariant t).5;
  };
}
