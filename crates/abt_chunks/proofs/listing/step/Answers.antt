use Rattle.std.proofs.Common.{◌≡◌, ◌-◌, ◌++◌, ℕ, List, refl, take, arith, ap, ◌∙◌, take-append-drop}
use Rattle.abt_chunks.proofs.Showing.{lists_to}
use Rattle.abt_chunks.proofs.listing.step.Goals as goal

pub returns-clause-lists : goal.returns-clause-lists
returns-clause-lists g c models =
    let p = c.next_part-taken.ensures in
    let r = c.next_part-taken.result.received in
    let rem = g.I.Input.remaining c.args.input.now in
    let left = g.I.Input.remaining c.next_part-taken.new.input in
    let k : g.I.Input.given c.next_part-taken.new.input - g.I.Input.given c.args.input.now ≡ r = omega
    (arith, p.taken.step.input.received) in
    let joined : take r rem ++ left ≡ rem = ap (λ (l : List ℕ). take r rem ++ l) (rw k at (p.taken.step.input.input.rest
    models))
    ∙ take-append-drop r rem in
    rw c.answer.ensures (lists_to c.next_part-taken.result.part c.args.walk.now c.next_part-taken.new.walk (take r rem)
    left rem joined (p.taken.lists models left (λ f. refl)))
