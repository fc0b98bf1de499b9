use Rattle.abt_io.proofs.Moments.{runs_joined}
use Rattle.abt_io.proofs.laws.runs_join.Goals as goal

pub returns : goal.returns
returns c = runs_joined
