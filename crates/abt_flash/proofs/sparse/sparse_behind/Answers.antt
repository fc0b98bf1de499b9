use Rattle.std.proofs.Common.{true, false, ℕ, ◌*◌, ◌+◌, ◌≡◌, ap, sym, arith, rules}
use Rattle.std.specs.Prelude.{IsTrue}
use Rattle.abt_sparse.specs.Reading.{outcome}
use Rattle.abt_sparse.specs.View.{view}
use Rattle.abt_runs.specs.Sparse.{blocks_in}
use Rattle.abt_runs.specs.SparseLaws.{sparse_long}
use Rattle.abt_flash.specs.Delivering.{ImageBlocks, pieces_in}
use Rattle.abt_flash.specs.Sparse.{image_length, size_in, sparse_image}
use Rattle.abt_flash.proofs.Records.{begins_same, image_same, run_begins, run_counts, run_early}
use Rattle.abt_flash.proofs.Wholly.{delivers_none, delivers_opened}
use Rattle.abt_runs.specs.Sparse.{sparse_charge}
use Rattle.abt_runs.specs.SparseLaws.{sparse_economy, sparse_spared}
use Rattle.abt_flash.proofs.GivenBytes.{behind_opening, forward_read, image_is}
use Rattle.abt_flash.proofs.Summing.{on_ok}
use Rattle.abt_flash.proofs.Refusing.{Opens, sparse_refused, fits_sparse}
use Rattle.abt_flash.proofs.sparse.sparse_behind.Goals as goal
use Rattle.abt_flash.proofs.sparse.sparse_behind.Goals.{In-Ok}
use Rattle.abt_flash.proofs.sparse.sparse_behind.Given.{Over}
use Rattle.abt_io.proofs.Lent.{reads_err}

opens : (g : Over) (c : In-Ok g) → IsTrue g.S.Source.models
    → Opens (g.S.Source.content c.args.source.now) c.in-Ok.runs.header.blk_sz c.in-Ok.runs.header.total_blks
opens g c models =
    let o = c.in-Ok.ensures.opened models in
    record {
      image = rw (o.is_image) tt;
      size = ap size_in o.is_image;
      count = sparse_long (view c.in-Ok.runs.header) c.in-Ok.runs.length c.in-Ok.runs.image
          (g.S.Source.content c.args.source.now) o;
    }

-- the opened image is the first one
same : (g : Over) (c : In-Ok g) → IsTrue g.S.Source.models
    → (let i : ImageBlocks = record {
      size = c.in-Ok.runs.header.blk_sz;
      blocks = blocks_in (outcome (g.S.Source.content c.open.new.source));
    } in
    i ≡ sparse_image (g.S.Source.content c.args.source.now))
same g c models = image_same _ _ _ _ (sym (opens g c models).size)
    (ap (λ x. blocks_in (outcome x)) (c.open.ensures.reads.content models))

pub returns-in-Ok-clause-delivered : goal.returns-in-Ok-clause-delivered
returns-in-Ok-clause-delivered g c =
    let k = (goal.at.returns-in-Ok-clause-delivered g c).In-Ok in
    let o = c.in-Ok.ensures in
    let e = c.open.ensures in
    let d = c.deliver_behind.ensures.delivered in
    let work = d.image.costs in
    let calls = work.calls in
    let turns = work.turns in
    let steps = work.steps in
    let greatest = work.greatest in
    record {
      granted = λ models. on_ok c.deliver_behind.result (λ room. fits_sparse _ _ _ _ _ (opens g k models) room)
          d.granted;
      refused = sparse_refused c.deliver_behind.result _ _ _ _ _ _ _ _ _ _ _
          (record { read = e.reads.faults; write = omega arith; spool = omega arith; put = omega arith })
          (λ models. opens g k models) d.refused;
      image = delivers_opened (λ models. same g k models) (λ late. absurd (let z : true ≡ false = late in cc)) o.reads
          (record {
            begun = work.begun;
            counted = begins_same _ _ _ _ _ c.deliver_behind.result
                (λ models. ap (λ i. pieces_in c.args.limit i) (same g k models)) work.counted;
            calls = omega (arith, calls, e.calls, e.given);
            turns = omega (arith, turns, e.turns, e.given);
            steps = omega (arith, steps, e.received, e.given);
            greatest = omega (arith, greatest, e.greatest);
          }) d.image;
      long = search rules;
    }

-- ---- where it was not opened

pub returns-in-Err-clause-delivered : goal.returns-in-Err-clause-delivered
returns-in-Err-clause-delivered g c =
    let e = c.open.ensures in
    record {
      granted = λ models. tt;
      refused = search rules;
      image = delivers_none c.not_read.result (rw c.not_read.ensures (run_early c.in-Err.fault))
          (λ models. rw c.not_read.ensures (run_counts c.in-Err.fault _ _)) (reads_err _ c.in-Err.ensures.reads)
          (record {
            begun = 0;
            counted = rw c.not_read.ensures (run_begins _ _ _ c.in-Err.fault);
            calls = omega (arith, e.calls, e.given);
            turns = omega (arith, e.turns, e.given);
            steps = omega (arith, e.received, e.given);
            greatest = omega (arith, e.greatest);
          });
      long = λ models. tt;
    }

pub returns-in-Ok-clause-reads : goal.returns-in-Ok-clause-reads
returns-in-Ok-clause-reads g c models =
    let s = c.in-Ok.runs in
    let e = c.deliver_behind.ensures in
    let charge = sparse_charge (view s.header) in
    let image : s.image ≡ image_length (g.S.Source.content c.args.source.now) =
    image_is (view s.header) s.length s.image _ (c.in-Ok.ensures.opened models) in
    let read = forward_read c.deliver_behind.result _ charge charge 0 s.image s.image s.header.total_blks s.image _
    c.args.before _ _ e.delivered.image.delivers.some e.few (sparse_spared s.header.total_blks s.image)
    (sparse_economy s.image) (e.reads models) in
    rw (← image) (behind_opening c.deliver_behind.result _ _ _ _ (8 * s.image)
    (λ (n : ℕ). 128 * (c.args.before + n + 1)) c.in-Ok.ensures.charged read)
