use Rattle.std.proofs.Common.{◌≡◌, ◌-◌, ◌≤◌, length, take, arith, ap, ◌∙◌, sym, length-take}
use Rattle.abt_verify.proofs.VerifySteps.{compared_part, going_phase}
use Rattle.abt_verify.proofs.VerifySteps.{refused_part}
use Rattle.abt_verify.proofs.verifier.Verifier.step.Goals as goal
use Rattle.abt_verify.proofs.verifier.Verifier.step.Goals.{in-None, in-Some}

pub returns-after-done-clause-told : goal.returns-after-done-clause-told
returns-after-done-clause-told g c models goes =
    let p = c.part_within-taken.ensures in
    let d = c.compare_part-done.ensures in
    let s = c.args.self.now.walk in
    let q = c.part_within-taken.result.part in
    let r = c.part_within-taken.result.received in
    let rem = g.I.Input.remaining c.args.input.now in
    let rest = g.I.Input.remaining c.part_within-taken.new.input in
    let win = c.part_within-taken.new.w.bytes in
    let there = g.P.Source.content c.args.partition.now in
    let given = g.P.Source.given c.args.partition.now in
    let given' = g.P.Source.given c.compare_part-done.new.partition in
    let k : g.I.Input.given c.part_within-taken.new.input - g.I.Input.given c.args.input.now ≡ r = omega (
      arith,
      p.step.input.received,
    ) in
    let long : r ≤ length win = omega (
      arith,
      ap length (p.gives.window models),
      length-take r win,
      length-take r rem,
      p.step.input.input.present models,
    ) in
    rw k (elim c.match-done.branch [
      | in-Some w ↦ rw w.answer-is (refused_part g.P.Source.models s c.part_within-taken.new.self (take r rem) rest win
          there given given' r 8192 c.max-all.result (p.gives.window models) long
          q w.in-Some.fault _ _ (rw w.in-Some.is at d.compares.cause) (λ still. sym w.in-Some.is
          ∙ (d.still still).0) p.step.turn.moved p.step.turn.leaves (p.gives.told models).says
          (λ t. rw (c.place-at.ensures, w.in-Some.is) at (d.compares.differs t)))
      | in-None w ↦
          let all = rw w.in-None.is at d.all in
          rw (w.answer-is, w.answer-answer.ensures) (compared_part g.P.Source.models s c.part_within-taken.new.self
          (take
          r rem) rest win there given given' r 8192 c.max-all.result (p.gives.window models) long
          q _ _ (going_phase c.args.self.now.stage s.phase goes) p.step.blame.cause p.step.turn.moved
          p.gives.words.within
          p.step.turn.leaves (p.gives.told models).says p.step.turn.place (omega (
            arith,
            d.partition_bytes.received,
            all,
          ))
          (λ t. rw (c.place-at.ensures, w.in-None.is) at (d.compares.stands t)))
    ])
