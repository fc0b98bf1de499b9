use Rattle.sys_outputs.proofs.Late.{takes_none, takes_then}
use Rattle.sys_outputs.proofs.held_file.take_all_back.Goals as goal

pub loop-one-init : goal.loop-one-init
loop-one-init g c = takes_none _ _ _ _

pub loop-one-preserved : goal.loop-one-preserved
loop-one-preserved g c = takes_then _ _ _ _ _ _ _ _ c.loop-one.invariant c.take_back.ensures
