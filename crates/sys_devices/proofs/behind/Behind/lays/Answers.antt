use Rattle.std.proofs.Common.{◌++◌, ◌+◌, ◌≤◌, ◌-◌, ◌≡◌, List, ℕ, length, ap, ◌∙◌, arith}
use Rattle.abt_io.specs.Moment.{put_at}
use Rattle.sys_devices.proofs.Taken.{laid_behind}
use Rattle.sys_devices.proofs.behind.Behind.lays.Goals as goal

pub returns-clause-laid : goal.returns-clause-laid
returns-clause-laid g c = λ yes.
    let s = c.args.self.now in
    let sent = s.sent.state.bytes in
    let held = s.held.items in
    let x = c.args.bytes.now in
    let place : length sent + length held ≡ s.used = s.place in
    let le : length sent ≤ c.args.at = omega (arith, place) in
    let from : c.args.at - (s.used - c.len.result) ≡ c.args.at - length sent = omega (arith, place, c.len.ensures) in
    ap (λ (l : List ℕ). sent ++ l) c.put_held.ensures
    ∙ ap (λ (k : ℕ). sent ++ put_at held k x) from
    ∙ laid_behind sent held x c.args.at le (omega (arith, place, c.requires))
