use Rattle.abootimg.proofs.Unpacks.{kept_none, step_refused}
use Rattle.abootimg.proofs.unpack_steps.make_folder.Goals as goal

pub returns-then-is_empty-clause-stays : goal.returns-then-is_empty-clause-stays
returns-then-is_empty-clause-stays g c = λ t. step_refused _ _ _ _ _ (kept_none _) c.refused_step.ensures
