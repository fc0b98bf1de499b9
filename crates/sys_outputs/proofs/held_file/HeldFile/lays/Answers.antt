use Rattle.std.proofs.Common.{◌≡◌, ◌≤◌, ◌+◌, ◌-◌, List, ℕ, length, sym, ap, ◌∙◌, arith}
use Rattle.abt_io.specs.Frame.{Logged}
use Rattle.abt_io.specs.Moment.{put_at}
use Rattle.sys_outputs.specs.Late.{whole}
use Rattle.sys_file.proofs.Puts.{laid_held}
use Rattle.sys_outputs.proofs.held_file.HeldFile.lays.Goals as goal

pub invariant_of-self-2-clause-faithful : goal.invariant_of-self-2-clause-faithful
invariant_of-self-2-clause-faithful g c = λ models sound.
    let h = c.args.self.now in
    let stands = g.F.SystemFile.stands h.file in
    let x = c.args.bytes.now in
    let from = c.args.at - h.sent in
    let fits : from + length x ≤ length h.held.items = omega arith in
    let place : h.sent + from ≡ c.args.at = omega arith in
    ap (λ (l : List ℕ). whole stands h.sent l) c.put_held.ensures
    ∙ laid_held stands h.held.items x h.sent from (h.sends models) fits
    ∙ ap (λ (k : ℕ). put_at (whole stands h.sent h.held.items) k x) place
    ∙ ap (λ (l : List ℕ). put_at l c.args.at x) (h.faithful models sound)
    ∙ sym (ap (λ (s : Logged). s.bytes) c.put.ensures)
