use Rattle.std.proofs.Common.{rules, ◌≡◌, ℕ, ◌-◌, List, take, drop, length, ap, sym, ◌∙◌, arith}
use Rattle.sys_devices.proofs.Places.{front_written, last_stand, stands_same}
use Rattle.sys_devices.proofs.held.CachedBytes.stay.Goals as goal

pub returns-clause-holds : goal.returns-clause-holds
returns-clause-holds c = λ content holds.
    let h = c.args.self.now in
    let held = c.min-held.result in
    let last = c.min-last.result in
    let moved = c.move_front.new.bytes in
    let value = c.as_mut_slice.ensures.value in
    let long : length moved ≡ length h.bytes.items = c.move_front.ensures.long ∙ ap length value in
    let s = last_stand content h.bytes.items h.at c.args.at held last h.count holds (omega arith) (search rules)
    (omega arith) (search rules) in
    let same = c.move_front.ensures.moved ∙ ap (λ (l : List ℕ). take last (drop (held - last) l)) value in
    let rest = drop (length moved) h.bytes.items in
    let front = front_written moved rest last h.bytes.len (search rules) (search rules) in
    stands_same content _ _ _ (sym (front ∙ same)) s
