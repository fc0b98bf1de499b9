use Rattle.std.proofs.Common.{arith, refl, sym, ap, length, ◌∙◌, ◌≡◌, ◌+◌, ◌-◌, IsTrue}
use Rattle.std.proofs.lemmas.Result.{err_from_is_err_and}
use Rattle.abt_io.proofs.Lent.{reads_none, reads_then, reads_err, reads_ok, writes_none, writes_then, writes_err}
use Rattle.abt_io.proofs.Lent.{writes_ok}
use Rattle.abt_pieces.proofs.Counts.{silent_most}
use Rattle.abt_pieces.proofs.Fronts.{front_join, rest_join, whole_join, no_bytes, cause_since, not_full, as_many}
use Rattle.abt_pieces.proofs.Fronts.{max_most, nothing_more, nothing_less}
use Rattle.abt_pieces.proofs.Image.{leads_join, leads_whole, nothing_appended}
use Rattle.abt_pieces.specs.Gather.{first_gatherer}
use Rattle.abt_pieces.specs.Image.{AreChunks, MayCome}
use Rattle.abt_sparsify.specs.Sparsify.{end_place}
use Rattle.abt_sparsify.proofs.SparseSteps.{raw_blocks, is_end_place, first_sound, first_told, first_rest, first_leads}
use Rattle.abt_sparsify.proofs.SparseSteps.{all_spent, all_read}
use Rattle.abt_sparsify.proofs.write.write_runs.Goals as goal

pub loop-m-preserved : goal.loop-m-preserved
loop-m-preserved g c =
    let i = c.loop-m.invariant in
    let e = c.step.ensures.stepped in
    let o = c.in_ok-step.ensures in
    let s = o.stepped in
    let r = c.args.runs.now.raw in
    let going = c.if-not-branch.true in
    let paid = s.paid going in
    let place = is_end_place r.blocks r.size r.window in
    record {
      reads = reads_then i.reads (reads_ok tt s.reads);
      writes = writes_then i.writes (writes_ok tt s.writes);
      first = e.segment.0 ∙ i.first;
      past = e.segment.1 ∙ i.past;
      sound = s.sound;
      told = λ models. rw (i.reads.content models) at (s.told models);
      counted = omega (arith, s.counted, i.counted);
      front = λ models. front_join _ _ _ _ _ i.writes.least e.writes.least (i.front models) (i.rest models)
          (rw (i.reads.content models, i.first, i.past) at (e.front models));
      rest = λ models. rest_join _ _ _ _ _ _ i.writes.least e.writes.least (i.rest models)
          (rw (i.reads.content models, i.first, i.past) at (s.rest models));
      given = omega (arith, e.costs.given, i.given);
      received = omega (arith, e.costs.received, e.costs.steps, i.received);
      greatest = omega (arith, e.costs.received, e.costs.greatest, i.greatest);
      calls = omega (arith, e.costs.calls, e.costs.given, e.writes.least, paid, i.calls, i.given, i.writes.least);
      write_calls = omega (
        arith,
        e.costs.write_calls,
        e.costs.given,
        e.writes.least,
        paid,
        i.write_calls,
        i.given,
        i.writes.least,
      );
      turns = omega (
        arith,
        s.words,
        e.costs.given,
        e.writes.least,
        paid,
        i.turns,
        i.given,
        i.writes.least,
        c.tick.ensures.turns,
      );
      spends = λ models.
          let z = s.spends models (end_place r.blocks) place place (sym i.past) refl 16
          (32 + (g.S.Source.given c.loop-m.source - g.S.Source.given c.args.source.now)) (i.spends models) in
          let t : 32 + (g.S.Source.given c.loop-m.source - g.S.Source.given c.args.source.now) +
          (g.S.Source.given c.step.new.source - g.S.Source.given c.loop-m.source) ≡ 32 +
          (g.S.Source.given c.step.new.source - g.S.Source.given c.args.source.now) = omega
          (arith, e.costs.given, i.given) in
          rw t at z;
      leads = leads_join (AreChunks r.size c.args.counted.chunks r.blocks) (MayCome r.size r.blocks c.loop-m.writer)
          (MayCome r.size r.blocks c.step.new.self) _ _ _ i.leads (s.leads going);
    }

-- all is written
pub returns : goal.returns
returns g c =
    let i = c.loop-m.invariant in
    let e = c.step.ensures.stepped in
    let o = c.in_ok-step.ensures in
    let s = o.stepped in
    let r = c.args.runs.now.raw in
    let test = c.if-not-branch.false in
    let done = o.ended test in
    let place = is_end_place r.blocks r.size r.window in
    record {
      moves = record {
        reads = reads_then i.reads (reads_ok tt s.reads);
        writes = writes_then i.writes (writes_ok tt s.writes);
        full = λ says. absurd (not_full says);
        cause = tt;
      };
      within = omega (arith, e.within, i.counted);
      long = omega (arith, i.counted, done.0, ap length done.1);
      front = λ models. front_join _ _ _ _ _ i.writes.least e.writes.least (i.front models) (i.rest models)
          (rw (i.reads.content models, i.first, i.past) at (e.front models));
      whole = λ models. done.1 ∙ whole_join _ _ _ i.writes.least (i.front models) (sym (i.rest models)
          ∙ no_bytes _ (let long = rw (i.first, i.past) at (i.told models).long in omega (arith, long, done.0)));
      image = leads_whole (AreChunks r.size c.args.counted.chunks r.blocks) (MayCome r.size r.blocks c.loop-m.writer) _
          _ _ i.leads (nothing_appended (MayCome r.size r.blocks c.loop-m.writer) _ _ done.1 (o.all test));
      economy = λ models.
          let z = o.spent models (end_place r.blocks) place place (sym i.past) refl 16
          (32 + (g.S.Source.given c.loop-m.source - g.S.Source.given c.args.source.now)) (i.spends models) test in
          let y = all_read r.length r.blocks r.size (g.S.Source.given c.step.new.source - g.S.Source.given
          c.args.source.now) (omega (arith, z, e.costs.given, i.given)) in
          omega (arith, y, e.costs.given, i.given);
      costs = record {
        given = omega (arith, e.costs.given, i.given);
        received = omega (arith, e.costs.received, e.costs.steps, i.received);
        calls = omega (arith, i.calls, e.costs.calls, i.given, e.costs.given, i.writes.least, e.writes.least);
        write_calls = omega (
          arith,
          i.write_calls,
          e.costs.write_calls,
          i.given,
          e.costs.given,
          i.writes.least,
          e.writes.least,
        );
        turns = omega (arith, i.turns, e.costs.turns, i.given, e.costs.given, i.writes.least, e.writes.least);
        greatest = omega (arith, e.costs.received, e.costs.greatest, i.greatest);
      };
    }

-- a step has failed
pub returns-in_err-step : goal.returns-in_err-step
returns-in_err-step g c =
    let i = c.loop-m.invariant in
    let e = c.step.ensures.stepped in
    let f = c.in_err-step.ensures.stepped in
    let p = err_from_is_err_and c.from_residual.result c.from_residual.ensures.1 in
    record {
      moves = record {
        reads = rw p.1 (reads_then i.reads (reads_err _ f.reads));
        writes = rw (p.1, p.2) (writes_then i.writes (writes_err _ f.writes));
        full = rw (p.1, p.2) (λ says. (f.full says).0);
        cause = rw (p.1, p.2) (cause_since _ _ _ _ _ _ _ _ i.reads.faults i.writes.faults f.cause);
      };
      within = omega (arith, e.within, i.counted);
      long = rw p.1 tt;
      front = λ models. front_join _ _ _ _ _ i.writes.least e.writes.least (i.front models) (i.rest models)
          (rw (i.reads.content models, i.first, i.past) at (e.front models));
      whole = λ models. rw p.1 tt;
      image = rw p.1 tt;
      economy = λ models. rw p.1 tt;
      costs = record {
        given = omega (arith, e.costs.given, i.given);
        received = omega (arith, e.costs.received, e.costs.steps, i.received);
        calls = omega (arith, i.calls, e.costs.calls, i.given, e.costs.given, i.writes.least, e.writes.least);
        write_calls = omega (
          arith,
          i.write_calls,
          e.costs.write_calls,
          i.given,
          e.costs.given,
          i.writes.least,
          e.writes.least,
        );
        turns = omega (arith, i.turns, e.costs.turns, i.given, e.costs.given, i.writes.least, e.writes.least);
        greatest = omega (arith, e.costs.received, e.costs.greatest, i.greatest);
      };
    }

-- before the first chunk
pub loop-m-init : goal.loop-m-init
loop-m-init g c =
    let r = c.args.runs.now.raw in
    let s = c.start.ensures in
    let begun = rw c.blocks-count.ensures at c.writer_of-writer.ensures in
    let start = c.start.result in
    let silent = silent_most r.blocks r.blocks (first_gatherer start) in
    let blocks = λ (models : IsTrue g.S.Source.models). raw_blocks c.args.runs.now.is_tail_raw r.blocks r.size r.length
    _ r.some r.covers r.last
    (c.requires.ready.opened models) in
    record {
      reads = reads_none _ g.S.Source _;
      writes = writes_none _ g.O.Output _;
      first = rw begun refl;
      past = rw begun refl;
      sound = rw begun (first_sound r.blocks r.size _ start c.args.counted s.first s.within c.requires.ready.some
          c.requires.ready.small (omega arith));
      told = λ models. rw begun (first_told r.blocks r.size _ _ start c.args.counted s.first s.within (blocks models).0
          (c.requires.counts models).chunks (c.requires.counts models).bytes);
      counted = rw begun (omega (arith, c.requires.least));
      front = λ models. nothing_more _ _;
      rest = λ models. rw begun (first_rest r.blocks c.args.most _ start c.args.counted (blocks models).0 ∙ nothing_less
          (g.O.Output.written c.args.output.now) _);
      given = as_many _;
      received = as_many _;
      greatest = max_most _ _;
      calls = rw begun (omega (arith, silent));
      write_calls = rw begun (omega (arith, silent));
      turns = rw begun (omega (arith, silent));
      spends = λ models.
          let z = all_spent r.length r.blocks r.size c.args.most start c.args.counted s.first s.unused s.fresh r.covers
          in
          let t : 32 ≡ 32 + (g.S.Source.given c.args.source.now - g.S.Source.given c.args.source.now) = omega arith in
          rw begun (rw t at z);
      leads = rw begun (first_leads r.size r.blocks c.args.most start c.args.counted _ s.first);
    }
