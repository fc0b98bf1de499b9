use Rattle.std.proofs.Common.{arith, ◌≡◌, ◌<◌, ◌≤◌, ◌+◌, ◌-◌, ◌*◌, length, replicate, min, ◌∙◌}
use Rattle.std.specs.Prelude.{IsTrue}
use Rattle.std.specs.List.{concat}
use Rattle.abt_io.specs.Moment.{in_range}
use Rattle.abt_io.proofs.Moments.{within_part}
use Rattle.abt_chunks.proofs.Repeated.{some_of_window}
use Rattle.abt_flash.proofs.Fronts.{front_of_words}
use Rattle.abt_flash.proofs.Moments.{unsynced_then, words_more}
use Rattle.abt_flash.proofs.write_part.lay_words.Goals as goal

pub writes-preserved : goal.writes-preserved
writes-preserved g c =
    let i = c.writes.invariant in
    let e = c.in-Ok.ensures in
    let some = c.min-some.result in
    let most = c.min-most.result in
    let test : c.writes.done < c.args.n = c.writes-test.true in
    let least : some ≡ min (c.args.n - c.writes.done) most = c.min-some.ensures in
    let part : c.part.result.now ≡ concat (replicate some c.args.word) = c.part.ensures.value
    ∙ some_of_window c.lay_word.new.w.bytes c.args.word most some i.word (omega arith) c.lay_word.ensures.laid in
    let long : length c.part.result.now ≡ 4 * some - 0 = c.part.ensures.long in
    let place = c.place_behind.ensures in
    let behind = c.count_behind-done.ensures in
    let kept = λ (models : IsTrue g.P.Source.models). rw place at (e.kept models) in
    let moments = λ (models : IsTrue g.P.Source.models). rw place at (e.moments models) in
    let written = λ (models : IsTrue g.P.Source.models). rw place at (e.written models) in
    let all : g.P.Partition.taken c.write_all_at.new.partition ≡ g.P.Partition.taken c.writes.partition
    + length c.part.result.now = e.all in
    let more = λ (models : IsTrue g.P.Source.models). unsynced_then (in_range c.args.at (4 * c.args.n)) _ _ _ _ _ _ _
    (λ k. within_part c.args.at (4 * c.writes.done) _ (4 * c.args.n) k (omega arith)) (i.kept models) i.synced
    (kept models) (i.moments models) (moments models) in
    record {
      within = omega arith;
      word = i.word;
      size = e.size ∙ i.size;
      taken = omega arith;
      written = λ models. rw behind
          (words_more _ _ _ c.part.result.now c.args.word c.args.at c.writes.done some i.word
          (omega (arith, g.met.P.Source.sized c.args.partition.now models)) (i.written models) part (written models));
      kept = λ models. (more models).0;
      moments = λ models. (more models).1;
      synced = e.synced ∙ i.synced;
      reads = e.reads ∙ i.reads;
      given = e.given ∙ i.given;
      read_faults = e.read_faults ∙ i.read_faults;
      syncs = e.syncs ∙ i.syncs;
      faults = e.clean ∙ i.faults;
      calls = omega (arith, e.calls, i.calls);
      turns = omega (arith, e.turns, i.turns);
      few = omega (arith, e.turns, i.few);
      steps = omega (arith, e.no_step.steps, i.steps);
      greatest = omega (arith, e.no_step.greatest, i.greatest);
    }

pub returns-in-Err-clause-moments : goal.returns-in-Err-clause-moments
returns-in-Err-clause-moments g c models =
    let i = c.writes.invariant in
    let e = c.in-Err.ensures in
    let some = c.min-some.result in
    let test : c.writes.done < c.args.n = c.writes-test.true in
    let least : some ≡ min (c.args.n - c.writes.done) c.min-most.result = c.min-some.ensures in
    let long : length c.part.result.now ≡ 4 * some - 0 = c.part.ensures.long in
    let kept = rw c.place_behind.ensures at (e.kept models) in
    let moments = rw c.place_behind.ensures at (e.moments models) in
    (unsynced_then (in_range c.args.at (4 * c.args.n)) _ _ _ _ _ _ _ (λ k. within_part c.args.at (4 * c.writes.done) _
    (4 * c.args.n) k (omega arith)) (i.kept models) i.synced kept (i.moments models) moments).1

pub returns-in-Err-clause-broken : goal.returns-in-Err-clause-broken
returns-in-Err-clause-broken g c models =
    let i = c.writes.invariant in
    let e = c.in-Err.ensures in
    let some = c.min-some.result in
    let least : some ≡ min (c.args.n - c.writes.done) c.min-most.result = c.min-some.ensures in
    let most : c.min-most.result ≡ min c.args.n 16384 = c.min-most.ensures in
    let long : length c.part.result.now ≡ 4 * some - 0 = c.part.ensures.long in
    let few : length c.part.result.now ≤ 65536 = omega (arith, long, least, most) in
    let room : c.args.at + 4 * c.args.n ≤ length (g.P.Source.content c.args.partition.now) =
    omega (arith, c.requires.fits, g.met.P.Source.sized c.args.partition.now models) in
    front_of_words (g.P.Partition.past c.writes.partition) (g.P.Partition.past c.write_all_at.new.partition) _ _ _
    c.args.word c.args.at c.args.n c.writes.done _ i.word i.within few room (i.written models)
    (rw c.place_behind.ensures at (e.kept models))
