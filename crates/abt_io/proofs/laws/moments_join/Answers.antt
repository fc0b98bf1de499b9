use Rattle.abt_io.proofs.Moments.{through_all}
use Rattle.abt_io.proofs.laws.moments_join.Goals as goal

pub returns : goal.returns
returns c = through_all
