use Rattle.std.proofs.Common.{refl}
use Rattle.sys_disk.specs.Counts.{no_counts}
use Rattle.abootimg.specs.Stored.{stored}
use Rattle.abootimg.proofs.Unpacks.{clean_counting, clean_none, clean_then, kept_counting, kept_none, kept_then}
use Rattle.abootimg.proofs.unpack_links.refuse_links.Goals as goal

pub loop-link-init : goal.loop-link-init
loop-link-init g c = record {
  kept = λ t. kept_none _;
  clean = λ t. clean_none (stored (g.D.Disk.world c.args.disk.now) (g.D.Disk.held c.args.disk.now));
}

pub loop-link-preserved : goal.loop-link-preserved
loop-link-preserved g c = record {
  kept = λ t. kept_then _ _ _ (c.loop-link.invariant.kept t)
      (kept_counting _ _ _ _ no_counts (c.refuse_taken.ensures.world t)
      (rw c.in-Ok.is at (c.refuse_taken.ensures.held t)));
  clean = λ t. clean_then _ _ _ (c.loop-link.invariant.clean t)
      (clean_counting _ _ _ _ no_counts (rw c.in-Ok.is at (c.refuse_taken.ensures.held t)) (λ cause. refl));
}

pub returns-in-Err-clause-kept : goal.returns-in-Err-clause-kept
returns-in-Err-clause-kept g c = λ t. kept_then _ _ _ (c.loop-link.invariant.kept t)
    (kept_counting _ _ _ _ _ (c.refuse_taken.ensures.world t) (c.refuse_taken.ensures.held t))
