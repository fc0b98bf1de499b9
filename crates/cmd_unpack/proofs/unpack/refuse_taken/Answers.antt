use Rattle.std.proofs.Common.{refl, ◌∙◌, arith}
use Rattle.cmd_common_boot.proofs.Calls.{same_counting}
use Rattle.cmd_unpack.proofs.Looks.{free_more}
use Rattle.cmd_unpack.proofs.unpack.refuse_taken.Goals as goal

pub loop-i-init : goal.loop-i-init
loop-i-init g c = λ t. record {
  held = refl;
  world = refl;
  free = λ i below. absurd (omega (arith, below));
}

pub loop-i-preserved : goal.loop-i-preserved
loop-i-preserved g c = λ t.
    let i = c.loop-i.invariant t in
    record {
      held = c.in-Ok.ensures.held t ∙ same_counting _ ∙ i.held;
      world = c.in-Ok.ensures.world t ∙ i.world;
      free = free_more _ _ _ _ _ _ _ i.free c.part_of.ensures c.place_of.ensures.path
          (rw (i.held, i.world) at (c.in-Ok.ensures.free t));
    }

pub returns-clause-free : goal.returns-clause-free
returns-clause-free g c = λ t k below.
    (c.loop-i.invariant t).free k (omega (arith, below, c.part_count-i-end.ensures, c.loop-i-test.false))
