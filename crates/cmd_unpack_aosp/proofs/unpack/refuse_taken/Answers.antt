use Rattle.std.proofs.Common.{◌∙◌, arith, refl, rules, sym}
use Rattle.abt_sections.specs.Header.{view_of}
use Rattle.sys_disk.specs.Counts.{no_counts}
use Rattle.cmd_common_boot.proofs.Calls.{same_counting}
use Rattle.cmd_unpack_aosp.proofs.Files.{free_more, none_looked_at}
use Rattle.cmd_unpack_aosp.proofs.unpack.refuse_taken.Goals as goal

pub loop-i-init : goal.loop-i-init
loop-i-init g c = λ t. record {
  held = refl;
  world = refl;
  free = none_looked_at c.args.folder.now (view_of c.args.image.now.header) (g.D.Disk.held c.args.disk.now)
      (g.D.Disk.world c.args.disk.now);
}

pub loop-i-preserved : goal.loop-i-preserved
loop-i-preserved g c = λ t.
    let i = c.loop-i.invariant t in
    record {
      held = c.in-Ok.ensures.clean t ∙ i.held;
      world = c.in-Ok.ensures.world t ∙ i.world;
      free = free_more c.args.folder.now (view_of c.args.image.now.header) c.loop-i.i (g.D.Disk.held c.args.disk.now)
          (g.D.Disk.world c.args.disk.now) i.free (rw (i.held, i.world) at (c.in-Ok.ensures.free t));
    }

pub returns-clause-free : goal.returns-clause-free
returns-clause-free g c = λ t k below. (c.loop-i.invariant t).free k (search (rules, arith))

pub returns-clause-held : goal.returns-clause-held
returns-clause-held g c = λ t. (no_counts, (c.loop-i.invariant t).held ∙ sym (same_counting _))
