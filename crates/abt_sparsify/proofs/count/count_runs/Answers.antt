use Rattle.std.proofs.Common.{arith, sym, min, refl, IsTrue}
use Rattle.abt_io.proofs.Lent.{reads_none, reads_then, reads_err, reads_ok}
use Rattle.abt_pieces.proofs.Fronts.{as_many, max_most, run_causes}
use Rattle.abt_pieces.proofs.Counts.{silent_most, words_most}
use Rattle.abt_sparsify.specs.Sparsify.{end_place}
use Rattle.abt_sparsify.proofs.SparseSteps.{is_end_place, granted, granted_end, raw_blocks, counted_on, counted_still}
use Rattle.abt_sparsify.proofs.SparseSteps.{counted_whole, counted_first, sound_count_on, sound_count_still, few_bytes}
use Rattle.abt_sparsify.proofs.SparseSteps.{first_count, gatherer_sound, gatherer_told, bounded_whole}
use Rattle.abt_sparsify.proofs.count.count_runs.Goals as goal

-- before the first block
pub loop-gatherer-init : goal.loop-gatherer-init
loop-gatherer-init g c =
    let r = c.args.runs.now.raw in
    let s = c.start.ensures in
    let begun = c.begin-gatherer.ensures in
    let none = c.begin-counted.ensures in
    record {
      size = c.block_size-size.ensures;
      count = c.blocks-count.ensures;
      blocks = rw none c.blocks-count.ensures;
      reads = reads_none _ g.S.Source _;
      sound = rw begun (gatherer_sound _ _ c.start.result s.first s.within);
      told = λ models.
          let o = raw_blocks c.args.runs.now.is_tail_raw r.blocks r.size r.length _ r.some r.covers r.last
          (c.requires.opened models) in
          rw begun (gatherer_told _ _ _ c.start.result s.first s.within o.0);
      bounds = rw (begun, none) (first_count _ _ c.start.result);
      numbers = λ models. rw (begun, none) (counted_first _ _ c.start.result _ s.first);
      given = as_many _;
      received = as_many _;
      greatest = max_most _ _;
      calls = omega arith;
      turns = omega arith;
      reads_to = λ models. rw begun (let z = granted r.length r.blocks r.size c.start.result s.unused in omega
          (arith, z));
    }

pub and_run-counted-requires-clause-chunks : goal.and_run-counted-requires-clause-chunks
and_run-counted-requires-clause-chunks g c =
    let i = c.loop-gatherer.invariant in
    let e = c.in-Ok.ensures in
    let r = c.args.runs.now.raw in
    let run = rw c.in-Some.is at e.run in
    let z = sound_count_on _ c.args.most c.loop-gatherer.gatherer c.gather.new.self c.in-Some.run'
    c.loop-gatherer.counted c.requires.some i.sound.behind_it run i.bounds in
    let s = rw i.count at e.sound in
    omega (arith, z.chunks, s.room, r.fits)

pub and_run-counted-requires-clause-bytes : goal.and_run-counted-requires-clause-bytes
and_run-counted-requires-clause-bytes g c =
    let i = c.loop-gatherer.invariant in
    let e = c.in-Ok.ensures in
    let r = c.args.runs.now.raw in
    let run = rw c.in-Some.is at e.run in
    let z = sound_count_on _ c.args.most c.loop-gatherer.gatherer c.gather.new.self c.in-Some.run'
    c.loop-gatherer.counted c.requires.some i.sound.behind_it run i.bounds in
    let s = rw i.count at e.sound in
    rw i.size (few_bytes _ r.blocks r.size _ (omega (arith, s.room)) r.fits r.window z.bytes)

pub loop-gatherer-preserved-in-Some : goal.loop-gatherer-preserved-in-Some
loop-gatherer-preserved-in-Some g c =
    let i = c.loop-gatherer.invariant in
    let e = c.in-Ok.ensures in
    let r = c.args.runs.now.raw in
    let run = rw c.in-Some.is at e.run in
    let z = sound_count_on _ c.args.most c.loop-gatherer.gatherer c.gather.new.self c.in-Some.run'
    c.loop-gatherer.counted c.requires.some i.sound.behind_it run i.bounds in
    let going = sym c.loop-gatherer-test.ensures in
    let most = silent_most r.blocks r.blocks c.loop-gatherer.gatherer in
    let paid = rw i.count at (e.paid going) in
    let words = rw i.count at e.words in
    let now = rw i.size at c.and_run-counted.ensures in
    record {
      size = i.size;
      count = i.count;
      blocks = rw now i.blocks;
      reads = reads_then i.reads (reads_ok tt e.source.reads);
      sound = rw i.count at e.sound;
      told = λ models. rw (i.count, i.reads.content models) at (e.told models);
      bounds = rw now z;
      numbers = λ models.
          let o = raw_blocks c.args.runs.now.is_tail_raw r.blocks r.size r.length _ r.some r.covers r.last
          (c.requires.opened models) in
          let closed = rw (i.count, i.reads.content models, c.in-Some.is) at (e.closed models) in
          rw now (counted_on _ _ _ _ c.loop-gatherer.gatherer c.gather.new.self c.in-Some.run' c.loop-gatherer.counted
          c.requires.some o.0 o.1 (i.told models).gathered closed run (i.numbers models));
      given = omega (arith, e.costs.given, i.given);
      received = omega (arith, e.costs.received, e.costs.one_step.steps, i.received, c.tick.ensures.steps);
      greatest = omega (arith, e.costs.received, e.costs.one_step.greatest, i.greatest, c.tick.ensures.greatest);
      calls = omega (arith, e.costs.calls, e.costs.given, paid, most, i.calls, i.given);
      turns = omega (arith, words, e.costs.given, paid, most, i.turns, i.given, c.tick.ensures.turns);
      reads_to = λ models. let place = is_end_place r.blocks r.size r.window in
          let z = rw i.count at (e.gathered models (end_place r.blocks) place place (sym i.count) refl) in
          omega (arith, z, i.reads_to models);
    }

pub loop-gatherer-preserved : goal.loop-gatherer-preserved
loop-gatherer-preserved g c =
    let i = c.loop-gatherer.invariant in
    let e = c.in-Ok.ensures in
    let r = c.args.runs.now.raw in
    let grows = rw c.in-None.is at e.grows in
    let going = sym c.loop-gatherer-test.ensures in
    let most = silent_most r.blocks r.blocks c.loop-gatherer.gatherer in
    let paid = rw i.count at (e.paid going) in
    let words = rw i.count at e.words in
    let on = rw i.count at e.sound in
    record {
      size = i.size;
      count = i.count;
      blocks = i.blocks;
      reads = reads_then i.reads (reads_ok tt e.source.reads);
      sound = on;
      told = λ models. rw (i.count, i.reads.content models) at (e.told models);
      bounds = sound_count_still _ c.loop-gatherer.gatherer c.gather.new.self c.loop-gatherer.counted i.sound.behind_it
          on.behind_it grows i.bounds;
      numbers = λ models. counted_still _ _ c.loop-gatherer.gatherer c.gather.new.self c.loop-gatherer.counted
          i.sound.behind_it on.behind_it grows (i.numbers models);
      given = omega (arith, e.costs.given, i.given);
      received = omega (arith, e.costs.received, e.costs.one_step.steps, i.received, c.tick.ensures.steps);
      greatest = omega (arith, e.costs.received, e.costs.one_step.greatest, i.greatest, c.tick.ensures.greatest);
      calls = omega (arith, e.costs.calls, e.costs.given, paid, most, i.calls, i.given);
      turns = omega (arith, words, e.costs.given, paid, most, i.turns, i.given, c.tick.ensures.turns);
      reads_to = λ models. let place = is_end_place r.blocks r.size r.window in
          let z = rw i.count at (e.gathered models (end_place r.blocks) place place (sym i.count) refl) in
          omega (arith, z, i.reads_to models);
    }

-- all runs are counted
pub returns : goal.returns
returns g c =
    let i = c.loop-gatherer.invariant in
    let r = c.args.runs.now.raw in
    let z = i.sound.ended (sym c.loop-gatherer-test.ensures) in
    let whole = λ (models : IsTrue g.S.Source.models).
    let o = raw_blocks c.args.runs.now.is_tail_raw r.blocks r.size r.length _ r.some r.covers r.last
    (c.requires.opened models) in
    counted_whole r.size _ _ _ c.loop-gatherer.gatherer c.loop-gatherer.counted o.0 z.0 z.1 (i.numbers models) in
    let most = words_most r.size r.blocks (min c.loop-gatherer.gatherer.at.block r.blocks) in
    record {
      source = record { reads = reads_ok _ i.reads; cause = tt };
      blocks = i.blocks;
      counts = whole;
      bounded = bounded_whole _ _ c.loop-gatherer.gatherer c.loop-gatherer.counted z.0 z.1 i.bounds;
      economy = λ models. let end = granted_end r.length r.blocks r.size c.loop-gatherer.gatherer.at z.1 in omega
          (arith, end, i.reads_to models);
      costs = record {
        given = i.given;
        received = i.received;
        calls = omega (arith, i.calls);
        turns = omega (arith, i.turns, most);
        greatest = i.greatest;
      };
    }

-- the source has failed
pub returns-in-Err : goal.returns-in-Err
returns-in-Err g c =
    let i = c.loop-gatherer.invariant in
    let e = c.gather.ensures in
    let turns = rw i.count at e.costs.turns in
    record {
      source = record {
        reads = reads_then i.reads (reads_err _ c.in-Err.ensures.source.reads);
        cause = run_causes _ _ _ _ _ _ _ c.run_fault.ensures (rw i.reads.clean at c.in-Err.ensures.source.cause);
      };
      blocks = tt;
      counts = λ models. tt;
      bounded = tt;
      economy = λ models. tt;
      costs = record {
        given = omega (arith, i.given, e.costs.given);
        received = omega (arith, e.costs.received, e.costs.one_step.steps, i.received, c.tick.ensures.steps);
        calls = omega (arith, i.calls, e.costs.calls, i.given, e.costs.given);
        turns = omega (arith, i.turns, turns, i.given, e.costs.given, c.tick.ensures.turns);
        greatest = omega (arith, e.costs.received, e.costs.one_step.greatest, i.greatest, c.tick.ensures.greatest);
      };
    }
