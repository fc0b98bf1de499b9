use Rattle.mem_files.proofs.Paths.{found_here, found_behind, found_nowhere}
use Rattle.mem_files.proofs.stored.file_at.Goals as goal

pub returns-then-eq : goal.returns-then-eq
returns-then-eq c = found_here _ _ _ _ _ _ c.loop-path-test.true c.path-item.is c.loop-path.invariant c.eq.ensures
    c.as_str.ensures.value c.if-eq.true

pub loop-path-preserved : goal.loop-path-preserved
loop-path-preserved c = found_behind _ _ _ _ _ _ c.loop-path-test.true c.path-item.is c.loop-path.invariant c.eq.ensures
    c.as_str.ensures.value c.if-eq.false

pub returns : goal.returns
returns c = found_nowhere _ _ _ c.loop-path-test.false c.loop-path.invariant
