use Rattle.mem_disk.proofs.Numbered.{left_next, none_left}
use Rattle.mem_disk.proofs.left.least_of.Goals as goal

pub loop-path-init : goal.loop-path-init
loop-path-init c = none_left c.args.front.now c.args.behind

pub loop-path-preserved : goal.loop-path-preserved
loop-path-preserved c = left_next _ _ _ _ _ _ _ _ _ c.loop-path-test.true c.path-item.is c.as_str.ensures.value
    c.number_behind-number.ensures.some c.number_behind-number.ensures.none c.lesser-least.ensures c.loop-path.invariant
