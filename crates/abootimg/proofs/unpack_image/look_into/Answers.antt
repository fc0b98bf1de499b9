use Rattle.abootimg.proofs.Unpacks.{kept_none, step_refused}
use Rattle.abootimg.proofs.unpack_image.look_into.Goals as goal

pub returns-in-Err-clause-stays : goal.returns-in-Err-clause-stays
returns-in-Err-clause-stays g c = λ t. step_refused _ _ _ _ _ (kept_none _) c.refused_image.ensures.status
