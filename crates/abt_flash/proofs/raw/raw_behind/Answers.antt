use Rattle.std.proofs.Common.{ℕ, ◌≡◌, length, ap, arith, rules, Ok}
use Rattle.std.specs.Prelude.{IsTrue}
use Rattle.abt_sparse.specs.Block.{classify}
use Rattle.abt_runs.specs.RawLaws.{raw_long}
use Rattle.abt_flash.specs.Delivering.{blocks_in_first}
use Rattle.abt_flash.specs.Raw.{raw_image}
use Rattle.abt_flash.proofs.Records.{costs_more, run_begins, run_counts, run_early}
use Rattle.abt_flash.proofs.Wholly.{delivers_none, delivers_opened}
use Rattle.abt_io.proofs.Lent.{reads_none}
use Rattle.abt_flash.proofs.GivenBytes.{read_raw}
use Rattle.abt_flash.proofs.Refusing.{OpensRaw, opens_runs, raw_allowed, raw_refused}
use Rattle.abt_flash.proofs.raw.raw_behind.Goals as goal
use Rattle.abt_flash.proofs.raw.raw_behind.Goals.{In-Ok}
use Rattle.abt_flash.proofs.raw.raw_behind.Given.{Over}

counts : (g : Over) (c : In-Ok g) → IsTrue g.S.Source.models
    → length (classify c.args.b (g.S.Source.content c.args.source.now)) ≡ c.in-Ok.runs.blocks
counts g c models =
    let s = c.in-Ok.runs in
    rw (c.in-Ok.ensures.size.0) at
    (raw_long s.length s.blocks s.size (g.S.Source.content c.args.source.now) s.some s.covers s.last
    (c.in-Ok.ensures.opened models))

-- the opened image is the source's in blocks of this size
same : (g : Over) (c : In-Ok g)
    → raw_image c.in-Ok.runs.size (g.S.Source.content c.args.source.now) ≡ raw_image c.args.b
    (g.S.Source.content c.args.source.now)
same g c = ap (λ n. raw_image n (g.S.Source.content c.args.source.now)) c.in-Ok.ensures.size.0

-- it is opened as the blocks that its length fills
opens : (g : Over) (c : In-Ok g) → OpensRaw c.args.b c.in-Ok.runs.blocks (g.S.Source.content c.args.source.now)
    (g.S.Source.size c.args.source.now) g.S.Source.models
opens g c =
    let r = c.in-Ok.runs in
    let size : r.size ≡ c.args.b = c.in-Ok.ensures.size.0 in
    let long : r.length ≡ g.S.Source.size c.args.source.now = c.in-Ok.ensures.size.1 in
    rw (← long) (rw (← size) (opens_runs r.length r.blocks r.size _ _ r.some r.window r.words r.covers r.last r.fits
    (λ models. rw size (counts g c models))))

pub returns-in-Ok-clause-delivered : goal.returns-in-Ok-clause-delivered
returns-in-Ok-clause-delivered g c =
    let k = (goal.at.returns-in-Ok-clause-delivered g c).In-Ok in
    let size = c.in-Ok.ensures.size.0 in
    let d = c.deliver_behind.ensures.delivered in
    record {
      allowed = raw_allowed c.deliver_behind.result _ _ _ _ _ _ _ (opens g k) (rw size at d.granted);
      refused = raw_refused c.deliver_behind.result _ _ _ _ _ _ _ _ _ _ _ (opens g k) (rw size at d.refused);
      image = delivers_opened (λ models. same g k) (λ late. size)
          (reads_none {X = ℕ} {E = ℕ} (Ok 0) g.S.Source c.args.source.now)
          (costs_more _ _ _ _ _ _ _ _ _ _ (rw size at d.image.costs)) d.image;
      long = λ models. rw (counts g k models) (rw size at d.long);
    }

-- ---- where it was not opened

pub returns-in-Err-clause-delivered : goal.returns-in-Err-clause-delivered
returns-in-Err-clause-delivered g c = record {
  allowed = tt;
  refused = search rules;
  image = delivers_none c.not_read.result (rw c.not_read.ensures (run_early c.in-Err.fault))
      (λ models. rw c.not_read.ensures (run_counts c.in-Err.fault _ _)) (reads_none _ _ _) (record {
        begun = 0;
        counted = rw c.not_read.ensures (run_begins _ _ _ c.in-Err.fault);
        calls = omega arith;
        turns = omega arith;
        steps = omega arith;
        greatest = omega arith;
      });
  long = λ models. tt;
}

-- ---- what is read

pub returns-in-Ok-clause-few : goal.returns-in-Ok-clause-few
returns-in-Ok-clause-few g c models =
    rw (counts g ((goal.at.returns-in-Ok-clause-few g c).In-Ok) models) c.deliver_behind.ensures.few

pub returns-in-Ok-clause-reads : goal.returns-in-Ok-clause-reads
returns-in-Ok-clause-reads g c models =
    let runs = c.in-Ok.runs in
    let x = g.S.Source.content c.args.source.now in
    let start = ap (λ (n : ℕ). blocks_in_first c.args.limit n (classify n x) c.args.before) c.in-Ok.ensures.size.0 in
    read_raw c.deliver_behind.result runs g.W.Way.before g.W.Way.each g.W.Way.last g.W.Way.all _ _ _ _ c.args.before _
    _ c.in-Ok.ensures.size.0 (c.in-Ok.ensures.opened models) start (c.deliver_behind.ensures.reads models)
