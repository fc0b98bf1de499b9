use Rattle.std.proofs.Common.{◌≡◌, ◌-◌, take, arith}
use Rattle.abt_chunks.proofs.Finishing.{onward, begins, fault_errs, held_part}
use Rattle.abt_chunks.proofs.expander.Expander.step.Goals as goal

pub returns-in-Ok-clause-told : goal.returns-in-Ok-clause-told
returns-in-Ok-clause-told g c models t e =
    let p = c.part-taken.ensures in
    let q = c.part-taken.result.part in
    let r = c.part-taken.result.received in
    let rem = g.I.Input.remaining c.args.input.now in
    let k : g.I.Input.given c.part-taken.new.input - g.I.Input.given c.args.input.now ≡ r = omega
    (arith, p.step.input.received) in
    rw (k, c.answer.ensures) (onward c.args.self.now.walk c.part-taken.new.self
    (g.I.Input.remaining c.part-taken.new.input) (take r rem) t c.part-taken.new.w.bytes
    (g.O.Output.written c.args.output.now) (g.O.Output.written c.write_part-done.new.output) r (p.gives.window models) q
    ((p.gives.told models).says t (λ f. e (rw c.answer.ensures (fault_errs q f)))) p.step.turn.leaves p.step.turn.moved
    c.in-Ok.ensures.front.ok)

pub returns-in-Ok-clause-begun : goal.returns-in-Ok-clause-begun
returns-in-Ok-clause-begun g c models =
    let p = c.part-taken.ensures in
    let r = c.part-taken.result.received in
    let rem = g.I.Input.remaining c.args.input.now in
    let k : g.I.Input.given c.part-taken.new.input - g.I.Input.given c.args.input.now ≡ r = omega
    (arith, p.step.input.received) in
    rw k (begins c.args.self.now.walk c.part-taken.new.self (g.I.Input.remaining c.part-taken.new.input) (take r rem)
    c.part-taken.new.w.bytes (g.O.Output.written c.args.output.now) (g.O.Output.written c.write_part-done.new.output) r
    _ (p.gives.window models) c.part-taken.result.part (p.gives.told models).says p.step.turn.moved
    c.write_part-done.ensures.front.front)

pub returns-in-Err-clause-begun : goal.returns-in-Err-clause-begun
returns-in-Err-clause-begun g c models =
    let p = c.part-taken.ensures in
    let r = c.part-taken.result.received in
    let rem = g.I.Input.remaining c.args.input.now in
    let k : g.I.Input.given c.part-taken.new.input - g.I.Input.given c.args.input.now ≡ r = omega
    (arith, p.step.input.received) in
    rw k (begins c.args.self.now.walk c.part-taken.new.self (g.I.Input.remaining c.part-taken.new.input) (take r rem)
    c.part-taken.new.w.bytes (g.O.Output.written c.args.output.now) (g.O.Output.written c.write_part-done.new.output) r
    _ (p.gives.window models) c.part-taken.result.part (p.gives.told models).says p.step.turn.moved
    c.write_part-done.ensures.front.front)

pub returns-in-Ok-clause-held : goal.returns-in-Ok-clause-held
returns-in-Ok-clause-held g c models =
    let p = c.part-taken.ensures in
    let q = c.part-taken.result.part in
    let r = c.part-taken.result.received in
    let rem = g.I.Input.remaining c.args.input.now in
    let k : g.I.Input.given c.part-taken.new.input - g.I.Input.given c.args.input.now ≡ r = omega
    (arith, p.step.input.received) in
    rw (k, c.answer.ensures) (held_part c.args.self.now.walk c.part-taken.new.self
    (g.I.Input.remaining c.part-taken.new.input) (take r rem) c.part-taken.new.w.bytes
    (g.O.Output.written c.args.output.now) (g.O.Output.written c.write_part-done.new.output) r (p.gives.window models) q
    (p.gives.told models).says p.step.turn.leaves p.step.turn.moved c.in-Ok.ensures.front.ok)
