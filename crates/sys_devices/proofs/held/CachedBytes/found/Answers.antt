use Rattle.std.proofs.Common.{rules, ℕ, ◌-◌, List, take, drop, ap, arith}
use Rattle.sys_devices.proofs.Places.{part_stands}
use Rattle.sys_devices.proofs.held.CachedBytes.found.Goals as goal

pub returns : goal.returns
returns c = λ content holds.
    let h = c.args.self.now in
    let from = c.args.at - h.at in
    let k = c.min-held.result - from in
    let found = ap (λ (l : List ℕ). take k (drop from l)) c.deref.ensures.value in
    part_stands content h.bytes.items _ h.at c.args.at from k h.count holds (omega arith) found (omega arith)
    (search rules)
