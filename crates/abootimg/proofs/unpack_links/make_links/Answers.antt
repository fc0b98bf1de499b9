use Rattle.std.proofs.Common.{refl}
use Rattle.sys_disk.specs.Counts.{call, no_counts}
use Rattle.sys_refusals.specs.declared.refusal.HostFault.TheVariants.{CannotOpen, Memory}
use Rattle.abootimg.proofs.Unpacks.{clean_counted, fails_then, kept_counted, some_counted, step_done}
use Rattle.abootimg.proofs.Unpacks.{step_refused, step_then}
use Rattle.abootimg.proofs.unpack_links.make_links.Goals as goal

-- memory is refused for the path of the folder
pub returns-in-Err-clause-stays : goal.returns-in-Err-clause-stays
returns-in-Err-clause-stays g c = λ t.
    step_refused _ _ _ _ _ (kept_counted _ _ _ (c.path_in.ensures t)) c.refused_step.ensures

pub returns-in-Err-clause-refused : goal.returns-in-Err-clause-refused
returns-in-Err-clause-refused g c = λ t not. some_counted _ _ Memory (rw c.in-Err.is at (c.path_in.ensures t))

-- the folder is not made
pub returns-then-made-ne-DONE-clause-stays : goal.returns-then-made-ne-DONE-clause-stays
returns-then-made-ne-DONE-clause-stays g c = λ t.
    step_then _ _ _ _ _ _ _ _ (step_done _ _ _ _
    (kept_counted _ _ no_counts (rw c.in-Ok.is at (c.path_in.ensures t))) refl
    (clean_counted _ _ no_counts (rw c.in-Ok.is at (c.path_in.ensures t)) (λ cause. refl))) refl
    (c.make_folder_at-made.ensures.stays t)

pub returns-then-made-ne-DONE-clause-refused : goal.returns-then-made-ne-DONE-clause-refused
returns-then-made-ne-DONE-clause-refused g c = λ t not.
    fails_then _ _ _ (kept_counted _ _ no_counts (rw c.in-Ok.is at (c.path_in.ensures t))) (record {
      cause = call CannotOpen;
      rises = c.make_folder_at-made.ensures.refused t not;
    })

-- the links are made, or one is not
pub returns-in-Ok-replace_links-clause-stays : goal.returns-in-Ok-replace_links-clause-stays
returns-in-Ok-replace_links-clause-stays g c = λ t.
    step_then _ _ _ _ _ _ _ _ (step_done _ _ _ _
    (kept_counted _ _ no_counts (rw c.in-Ok.is at (c.path_in.ensures t))) refl
    (clean_counted _ _ no_counts (rw c.in-Ok.is at (c.path_in.ensures t)) (λ cause. refl))) refl
    (step_then _ _ _ _ _ _ _ _ (c.make_folder_at-made.ensures.stays t) c.if-made-ne-DONE.false
    (step_done _ _ _ _ (c.replace_links.ensures.kept t) refl
    (rw c.in-Ok-replace_links.is at (c.replace_links.ensures.clean t))))

pub returns-clause-stays : goal.returns-clause-stays
returns-clause-stays g c = λ t.
    step_then _ _ _ _ _ _ _ _ (step_done _ _ _ _
    (kept_counted _ _ no_counts (rw c.in-Ok.is at (c.path_in.ensures t))) refl
    (clean_counted _ _ no_counts (rw c.in-Ok.is at (c.path_in.ensures t)) (λ cause. refl))) refl
    (step_then _ _ _ _ _ _ _ _ (c.make_folder_at-made.ensures.stays t) c.if-made-ne-DONE.false
    (step_refused _ _ _ _ _ (c.replace_links.ensures.kept t) c.refused_step-in-Err-replace_links.ensures))

pub returns-clause-refused : goal.returns-clause-refused
returns-clause-refused g c = λ t not.
    fails_then _ _ _ (kept_counted _ _ no_counts (rw c.in-Ok.is at (c.path_in.ensures t)))
    (fails_then _ _ _ (c.make_folder_at-made.ensures.stays t).kept
    (rw c.in-Err-replace_links.is at (c.replace_links.ensures.refused t)))
