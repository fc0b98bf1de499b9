use Rattle.std.proofs.Common.{refl}
use Rattle.sys_disk.specs.Counts.{no_counts}
use Rattle.sys_refusals.specs.declared.refusal.HostFault.TheVariants.{CannotOpen}
use Rattle.abootimg.proofs.Unpacks.{clean_counted, fails_counted, kept_counted, step_done, step_refused}
use Rattle.abootimg.proofs.unpack_steps.make_folder_at.Goals as goal

pub returns-in-Ok-clause-stays : goal.returns-in-Ok-clause-stays
returns-in-Ok-clause-stays g c = λ t. step_done _ _ _ _
    (kept_counted _ _ no_counts (rw c.in-Ok.is at (c.make_folder.ensures t))) refl
    (clean_counted _ _ no_counts (rw c.in-Ok.is at (c.make_folder.ensures t)) (λ cause. refl))

pub returns-in-Err-clause-stays : goal.returns-in-Err-clause-stays
returns-in-Err-clause-stays g c = λ t.
    step_refused _ _ _ _ _ (kept_counted _ _ _ (c.make_folder.ensures t)) c.refused_step.ensures

pub returns-in-Err-clause-refused : goal.returns-in-Err-clause-refused
returns-in-Err-clause-refused g c = λ t not. fails_counted _ _ CannotOpen (rw c.in-Err.is at (c.make_folder.ensures t))
