use Rattle.std.proofs.Common.{arith, length, ◌∙◌}
use Rattle.std.specs.Prelude.{IsTrue}
use Rattle.abt_io.specs.Moment.{in_range}
use Rattle.abt_io.proofs.Parts.{length_rest}
use Rattle.abt_io.proofs.Moments.{within_part, put_on, unsynced_more}
use Rattle.abt_io.proofs.write_all.write_all_at.Goals as goal

pub returns-in_err-done-clause-moments : goal.returns-in_err-done-clause-moments
returns-in_err-done-clause-moments g c models =
    let left = length_rest c.loop-done.done c.args.bytes.now in
    let e = c.write_at.ensures.laid in
    let i = c.loop-done.invariant in
    (unsynced_more (in_range c.args.at (length c.args.bytes.now)) _ _ _ _ _ _ _
    (λ k. within_part c.args.at c.loop-done.done _ (length c.args.bytes.now) k (omega arith)) (i.kept models)
    (e.kept models) (i.moments models) (e.moments models) (e.synced ∙ i.synced)).1

pub loop-done-preserved : goal.loop-done-preserved
loop-done-preserved g c =
    let e = c.in_ok-done.ensures.laid in
    let p = c.in_ok-done.ensures.put in
    let i = c.loop-done.invariant in
    let left = length_rest c.loop-done.done c.args.bytes.now in
    let more = λ (models : IsTrue g.P.Source.models).
    unsynced_more (in_range c.args.at (length c.args.bytes.now)) _ _ _ _ _ _ _
    (λ k. within_part c.args.at c.loop-done.done _ (length c.args.bytes.now) k (omega arith)) (i.kept models)
    (e.kept models) (i.moments models) (e.moments models) (e.synced ∙ i.synced) in
    record {
      within = omega arith;
      size = p.size ∙ i.size;
      written = λ models. put_on _ _ _ _ c.args.at c.loop-done.done c.in_ok-done.field-0 i.within
          (omega (arith, g.met.P.Source.sized c.args.partition.now models)) (i.written models) (e.written models);
      kept = λ models. (more models).0;
      moments = λ models. (more models).1;
      synced = e.synced ∙ i.synced;
      calls = omega arith;
      syncs = p.sync_calls ∙ i.syncs;
      reads = p.reads ∙ i.reads;
      given = p.given ∙ i.given;
      read_faults = p.read_faults ∙ i.read_faults;
      faults = omega arith;
      taken = omega arith;
      steps = omega arith;
      greatest = omega arith;
      turns = omega arith;
    }
