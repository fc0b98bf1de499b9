use Rattle.sys_numbered_names.proofs.folder.least_of.Goals as goal

pub loop-preserved : goal.loop-preserved
loop-preserved g c = λ t.
    let next = rw (c.in-Some-Ok.is, c.in-Some-Ok.field-0-is) at (c.next_name.ensures.next t) in
    c.in-Ok.ensures.least t _ (rw (c.as_str.ensures.value, ← next) (c.loop.invariant t))
