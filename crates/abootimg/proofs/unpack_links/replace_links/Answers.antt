use Rattle.std.proofs.Common.{refl}
use Rattle.sys_disk.specs.Counts.{no_counts}
use Rattle.sys_refusals.specs.declared.refusal.HostFault.TheVariants.{CannotOpen}
use Rattle.abootimg.proofs.Unpacks.{clean_counted, clean_none, clean_then, fails_then, kept_counted}
use Rattle.abootimg.proofs.Unpacks.{kept_none, kept_then, some_counted}
use Rattle.abootimg.proofs.unpack_links.replace_links.Goals as goal

pub loop-link-init : goal.loop-link-init
loop-link-init g c = record { kept = λ t. kept_none _; clean = λ t. clean_none (g.S.Storage.its c.args.storage.now) }

pub loop-link-preserved : goal.loop-link-preserved
loop-link-preserved g c = record {
  kept = λ t. kept_then _ _ _ (c.loop-link.invariant.kept t)
      (kept_counted _ _ no_counts (rw c.in-Ok.is at (c.replace_link.ensures t)));
  clean = λ t. clean_then _ _ _ (c.loop-link.invariant.clean t)
      (clean_counted _ _ no_counts (rw c.in-Ok.is at (c.replace_link.ensures t)) (λ cause. refl));
}

pub returns-in-Err-clause-kept : goal.returns-in-Err-clause-kept
returns-in-Err-clause-kept g c = λ t.
    kept_then _ _ _ (c.loop-link.invariant.kept t) (kept_counted _ _ _ (c.replace_link.ensures t))

pub returns-in-Err-clause-refused : goal.returns-in-Err-clause-refused
returns-in-Err-clause-refused g c = λ t.
    fails_then _ _ _ (c.loop-link.invariant.kept t)
    (some_counted _ _ CannotOpen (rw c.in-Err.is at (c.replace_link.ensures t)))
