use Rattle.std.proofs.Common.{rules, arith, ◌≡◌, ◌≤◌, ◌<◌, ◌+◌, ◌-◌, ◌*◌, length, replicate, min, ◌∙◌}
use Rattle.std.specs.List.{concat}
use Rattle.abt_chunks.proofs.Repeated.{some_of_window, words_on, words_front}
use Rattle.abt_chunks.proofs.expansion.write_words.Goals as goal

pub writes-preserved : goal.writes-preserved
writes-preserved g c =
    let i = c.writes.invariant in
    let e = c.in-Ok.ensures in
    let some = c.min-some.result in
    let most = c.min-most.result in
    let test : c.writes.done < c.args.n = c.writes-test.true in
    let least : some ≡ min (c.args.n - c.writes.done) most = c.min-some.ensures in
    let part : c.part.result.now ≡ concat (replicate some c.args.word) = c.part.ensures.value
    ∙ some_of_window c.lay_word.new.w.bytes c.args.word most some i.word (omega arith) c.lay_word.ensures.laid in
    let all : length (g.O.Output.written c.write_out.new.output)
    ≡ length (g.O.Output.written c.writes.output) + length c.part.result.now = e.all in
    let long : length c.part.result.now ≡ 4 * some - 0 = c.part.ensures.long in
    record {
      within = omega arith;
      long = omega arith;
      written = words_on _ _ _ c.part.result.now c.args.word c.writes.done some i.written part e.ok;
      word = i.word;
      frame = e.writes.frame ∙ i.frame;
      faults = e.writes.clean ∙ i.faults;
      full = omega (arith, e.writes.full_faults, i.full);
      calls = omega (arith, e.calls, i.calls);
      turns = omega (arith, e.turns, i.turns);
      few = omega (arith, e.turns, i.few);
      steps = omega (arith, e.no_step.steps, i.steps);
      greatest = omega (arith, e.no_step.greatest, i.greatest);
    }

pub returns-in-Err : goal.returns-in-Err
returns-in-Err g c =
    let i = c.writes.invariant in
    let e = c.in-Err.ensures in
    let some = c.min-some.result in
    let most = c.min-most.result in
    let test : c.writes.done < c.args.n = c.writes-test.true in
    let least : some ≡ min (c.args.n - c.writes.done) most = c.min-some.ensures in
    let part : c.part.result.now ≡ concat (replicate some c.args.word) = c.part.ensures.value
    ∙ some_of_window c.lay_word.new.w.bytes c.args.word most some i.word (omega arith) c.lay_word.ensures.laid in
    let long : length c.part.result.now ≡ 4 * some - 0 = c.part.ensures.long in
    let within : length (g.O.Output.written c.write_out.new.output)
    ≤ length (g.O.Output.written c.writes.output) + length c.part.result.now = e.within in
    let k = length (g.O.Output.written c.write_out.new.output) - length (g.O.Output.written c.writes.output) in
    record {
      lays = record {
        front = record {
          ok = tt;
          front = words_front _ _ _ c.part.result.now c.args.word c.writes.done some c.args.n k _ i.word i.written part
              e.front (omega arith) (omega arith) (omega (arith, i.long, e.writes.least));
          cause = omega (arith, e.cause, i.faults);
        };
        all = search rules;
        writes = search rules;
        costs = search rules;
      };
    }
