use Rattle.std.proofs.Common.{arith, ◌∙◌, ◌≡◌, ◌<◌, ◌*◌, ◌^◌, ap, ◌-◌, min, ℕ}
use Rattle.abt_io.proofs.Words.{laid_more, twice, few_turns}
use Rattle.abt_io.proofs.fill_window.lay_word.Goals as goal

pub loop-done-preserved : goal.loop-done-preserved
loop-done-preserved c =
    let i = c.loop-done.invariant in
    let d = c.loop-done.done in
    let more = c.min-more.result in
    let lt : d < c.args.n = c.loop-done-test.true in
    let least : more ≡ min d (c.args.n - d) = c.min-more.ensures in
    let two = twice c.args.m.now.turns.number c.loop-done.m.turns.number i.since in
    let turn = c.tick.ensures.turns in
    let pow : 2 ^ (c.tick.new.self.turns.number - c.args.m.now.turns.number) ≡ 2 * 2 ^
    (c.loop-done.m.turns.number - c.args.m.now.turns.number) =
    ap (λ (k : ℕ). 2 ^ (k - c.args.m.now.turns.number)) turn ∙ two in
    let dbl = i.doubled lt in
    record {
      some = omega arith;
      within = omega arith;
      laid = laid_more d more c.args.word c.split_at_mut-front.result.0.now c.copy_from_slice-in-loop-done.new.self _
          i.word (omega arith) (c.split_at_mut-front.ensures.front
          ∙ i.laid) c.copy_from_slice-in-loop-done.ensures.after;
      word = i.word;
      since = omega arith;
      below = omega arith;
      doubled = λ l. omega arith;
      turns = omega arith;
      steps = omega arith;
      greatest = omega arith;
    }

pub returns-clause-few : goal.returns-clause-few
returns-clause-few c =
    let i = c.loop-done.invariant in
    let t = few_turns (c.loop-done.m.turns.number - c.args.m.now.turns.number)
    (omega (arith, i.below, c.requires.room)) in
    omega arith
