use Rattle.std.proofs.Common.{rules, ◌+◌, take, drop, length, ap, sym, ◌∙◌}
use Rattle.sys_devices.proofs.Places.{front_written, more_stand, stands_same}
use Rattle.sys_devices.proofs.held.CachedBytes.go_on.Goals as goal

pub returns-in-Ok : goal.returns-in-Ok
returns-in-Ok g c = λ models before.
    let h = c.stay.new.self in
    let into = c.read_past.new.into in
    let e = c.in-Ok.ensures in
    let held = c.stay.ensures.holds _ before in
    let first = e.first ∙ ap (take h.count) c.as_mut_slice.ensures.value in
    let n = c.in-Ok.n in
    let place = sym c.stay.ensures.place in
    let all = more_stand _ h.bytes.items into h.at c.args.at h.count n held first place (e.read models) e.within in
    let rest = drop (length into) h.bytes.items in
    let front = front_written into rest (h.count + n) h.bytes.len e.within (search rules) in
    stands_same _ _ _ h.at (sym front) all
