use Rattle.std.specs.Prelude.{IsTrue}
use Rattle.std.proofs.Common.{◌≡◌, ℕ, ◌+◌, ◌*◌, ◌≤◌, ◌<◌, ◌^◌, length, drop, Err, refl, sym, ap, ◌∙◌, arith, inl}
use Rattle.std.proofs.Math.Nat.{le_refl}
use Rattle.std.proofs.lemmas.Nat.{mul-lt}
use Rattle.abt_io.specs.Moment.{moment_of}
use Rattle.abt_sparse.specs.Block.{IsBlockSize, cells, over}
use Rattle.abt_sparse.proofs.MendLaws.{mended}
use Rattle.abt_sparse.specs.Runs.{segments}
use Rattle.abt_sparse.proofs.Totals.{length-pieces}
use Rattle.abt_pieces.specs.Contents.{written_in}
use Rattle.abt_pieces.specs.declared.stage.CutterStage.TheVariants.{Between}
use Rattle.abt_flash.specs.Delivering.{Room, begun, blocks_behind, blocks_in_first, blocks_up_to}
use Rattle.abt_flash.proofs.Left.{Behind, behind}
use Rattle.abt_flash.proofs.Mended.{leaves_same}
use Rattle.abt_flash.proofs.Onward.{up_on}
use Rattle.abt_flash.proofs.Records.{begins_same, opening_begins, opening_counts, opening_early, opening_refuses}
use Rattle.abt_flash.proofs.Records.{plan_early, plan_refuses, rest_begins, rest_early, rest_more, stop_mends}
use Rattle.abt_flash.proofs.Refusing.{rest_refuses}
use Rattle.abt_flash.proofs.Staying.{blocks_grow, from_first}
use Rattle.abt_flash.proofs.Summing.{on_any, on_ok, on_unsynced, least_of, behind_written}
use Rattle.abt_flash.proofs.Wholly.{delivers_none}
use Rattle.abt_flash.proofs.GivenBytes.{few_of, read_for}
use Rattle.abt_flash.proofs.deliver_opened.deliver_behind.Goals as goal
use Rattle.abt_io.proofs.Lent.{reads_none, reads_then, reads_err}

-- ---- where no cutter was opened

pub returns-in-Err-clause-delivered : goal.returns-in-Err-clause-delivered
returns-in-Err-clause-delivered g c =
    let small = c.in-Err.ensures.refused in
    record {
      granted = tt;
      refused = rw c.not_opened.ensures (opening_refuses c.in-Err.fault _ _ _ _ _ _ _ _ _ small.0 small.1);
      image = delivers_none c.not_opened.result (rw c.not_opened.ensures (opening_early c.in-Err.fault))
          (λ models. rw c.not_opened.ensures (opening_counts c.in-Err.fault _ _)) (reads_none _ _ _) (record {
            begun = 0;
            counted = rw c.not_opened.ensures (opening_begins _ _ _ c.in-Err.fault);
            calls = omega arith;
            turns = omega arith;
            steps = omega arith;
            greatest = omega arith;
          });
      long = tt;
    }

-- ---- where the partition is too small

pub returns-then-is_too_small-clause-delivered : goal.returns-then-is_too_small-clause-delivered
returns-then-is_too_small-clause-delivered g c =
    let o = c.in-Ok.ensures in
    let count : c.blocks-2.result ≡ g.R.BlockRuns.count c.args.runs = rw o.runs at c.blocks-2.ensures in
    let size : c.block_size.result ≡ g.R.BlockRuns.size c.args.runs = rw o.runs at c.block_size.ensures in
    record {
      granted = tt;
      refused = (o.granted, rw (count, size) refl, rw c.length.ensures.size at c.if-is_too_small.ensures);
      image = delivers_none _ tt (λ models. tt) (reads_none _ _ _)
          (record {
            begun = 0;
            counted = refl;
            calls = omega arith;
            turns = omega arith;
            steps = omega arith;
            greatest = omega arith;
          });
      long = tt;
    }

-- ---- where planning was refused

pub returns-in-Err-plan_pieces-clause-delivered : goal.returns-in-Err-plan_pieces-clause-delivered
returns-in-Err-plan_pieces-clause-delivered g c =
    let o = c.in-Ok.ensures in
    let p = c.in-Err-plan_pieces.ensures in
    let b = g.R.BlockRuns.size c.args.runs in
    let all = g.R.BlockRuns.list c.args.runs (g.S.Source.content c.args.source.now) in
    let count : c.blocks-2.result ≡ g.R.BlockRuns.count c.args.runs = rw o.runs at c.blocks-2.ensures in
    let size : c.block_size.result ≡ b = rw o.runs at c.block_size.ensures in
    let room : Room c.args.limit b (g.R.BlockRuns.count c.args.runs) (g.P.Source.size c.args.partition.now) =
    record { each = o.granted; all = rw (count, size, c.length.ensures.size) at c.if-is_too_small.ensures } in
    let same : length (segments c.in-Ok.cutter.limit (g.R.BlockRuns.size c.in-Ok.cutter.runs)
    (g.R.BlockRuns.list c.in-Ok.cutter.runs (g.S.Source.content c.args.source.now))) ≡ length
    (segments c.args.limit b all) = rw (o.runs, o.limit) refl in
    let calls = p.costs.calls in
    let turns = rw o.runs at p.costs.turns in
    record {
      granted = tt;
      refused = plan_refuses c.in-Err-plan_pieces.fault _ _ _ _ _ _ _ _ _ room p.refused;
      image = delivers_none c.in-Err-plan_pieces.fault (plan_early _ _ _ _ _ p.refused)
          (λ models. rw (length-pieces c.args.limit b all) (rw (o.runs, o.limit) at (p.counted models)))
          (reads_err _ p.source) (record {
            begun = p.costs.begun;
            counted = begins_same _ _ _ _ _ (Err c.in-Err-plan_pieces.fault) (λ t. same
                ∙ sym (length-pieces c.args.limit b all)) p.costs.counted;
            calls = omega (arith, calls, p.costs.read);
            turns = omega (arith, turns, p.costs.read);
            steps = omega (arith, p.costs.steps);
            greatest = p.costs.greatest;
          });
      long = tt;
    }

-- ---- where all pieces after the first ones were delivered, or one was stopped

pub returns-clause-delivered : goal.returns-clause-delivered
returns-clause-delivered g c =
    let o = c.in-Ok.ensures in
    let p = c.in-Ok-plan_pieces.ensures in
    let r = c.deliver_rest.ensures in
    let b = g.R.BlockRuns.size c.args.runs in
    let all = g.R.BlockRuns.list c.args.runs (g.S.Source.content c.args.source.now) in
    let count : c.blocks-2.result ≡ g.R.BlockRuns.count c.args.runs = rw o.runs at c.blocks-2.ensures in
    let size : c.block_size.result ≡ b = rw o.runs at c.block_size.ensures in
    let room : Room c.args.limit b (g.R.BlockRuns.count c.args.runs) (g.P.Source.size c.args.partition.now) =
    record { each = o.granted; all = rw (count, size, c.length.ensures.size) at c.if-is_too_small.ensures } in
    record {
      granted = on_any c.deliver_rest.result room;
      refused = rest_refuses c.deliver_rest.result _ _ _ _ _ _ _ _ _ _
          (record { read = p.source.faults; write = le_refl _; spool = le_refl _; put = le_refl _ }) room
          (rw p.planned.1 at r.fails.stops);
      image = record {
        delivers = record {
          early = rest_early _ c.deliver_rest.result _ _ _ _ _ r.fails.stops;
          some = r.some;
          counted = λ models. rw (length-pieces c.args.limit b all)
              (rw (p.runs, o.runs, p.source.content models, p.limit, o.limit, p.planned.1) at (r.counted models));
          least = λ models. least_of c.args.limit b all c.args.before c.deliver_rest.result
              (rw (p.runs, o.runs, p.source.content models, p.limit, o.limit, p.planned.1) at (r.counted models));
          clean =
              let before = p.source.clean in
              on_ok c.deliver_rest.result (λ e. record {
                read = e.read ∙ before;
                write = e.write;
                spool = e.spool;
                put = e.put;
              }) r.fails.clean;
        };
        spool = record {
          room = r.spool.room;
          fits = rw (p.limit, o.limit) at r.spool.fits;
          written = λ models. rw (p.runs, o.runs, p.source.content models, p.limit, o.limit, p.planned.1) at
              (r.spool.written models);
          cuts = λ models. rw (p.runs, o.runs, p.source.content models, p.limit, o.limit, p.planned.1) at
              (r.spool.cuts models);
          begins = λ forward models. rw (p.runs, o.runs, p.source.content models, p.limit, o.limit, p.planned.1) at
              (r.spool.begins forward models);
          no_part = λ late models. rw (p.runs, o.runs, p.source.content models, p.limit, o.limit, p.planned.1) at
              (r.spool.no_part late models);
          ends = λ late. rw (p.runs, o.runs) at (r.spool.ends late);
          back = λ models spool. r.spool.back models spool;
        };
        partition =
            let here : IsTrue g.S.Source.models
            → Behind c.args.limit b all c.args.before c.plan_pieces.new.cutter.start.block Between = λ models.
            let long = g.met.R.BlockRuns.long c.args.runs _ (c.requires.opened models) in
            let within : c.plan_pieces.new.cutter.start.block ≤ g.R.BlockRuns.count c.args.runs =
            rw (p.runs, o.runs) at
            (g.met.R.BlockRuns.bounded c.plan_pieces.new.cutter.runs _ c.plan_pieces.new.cutter.sound.within) in
            let made = rw (o.runs, p.limit, o.limit, p.planned.0, p.planned.1) at (p.told models).cuts in
            behind c.args.limit b all c.args.before c.plan_pieces.new.cutter.start.block Between made (inl refl)
            (omega (arith, long, within)) in
            record {
              size = r.partition.size;
              unread = r.partition.unread;
              laid = λ models spool partition.
                  let laid = rw (p.runs, o.runs, p.source.content models) at
                  (r.partition.laid models spool partition) in
                  on_ok c.deliver_rest.result (λ e. e
                  ∙ ap (λ (n : ℕ). over (g.P.Source.content c.args.partition.now) (cells b (blocks_behind n all)))
                  (sym (here models).blocks)) laid;
              laid_up_to = λ models spool partition.
                  let laid = rw (p.runs, o.runs, p.source.content models, p.limit, o.limit) at
                  (r.partition.laid_up_to models spool partition) in
                  on_unsynced c.deliver_rest.result _ _ (λ j e. e
                  ∙ ap (λ (n : ℕ). over (g.P.Source.content c.args.partition.now)
                  (cells b (blocks_up_to n (blocks_in_first c.args.limit b all j) all)))
                  (sym (here models).blocks)) laid;
              once = λ models spool.
                  let wrote = rw (p.runs, o.runs, p.source.content models) at (r.partition.blocks models spool) in
                  let same : written_in (drop c.plan_pieces.new.cutter.start.block all) ≡ written_in
                  (blocks_behind (blocks_in_first c.args.limit b all c.args.before) all) =
                  sym (behind_written c.plan_pieces.new.cutter.start.block all)
                  ∙ ap (λ (n : ℕ). written_in (blocks_behind n all)) (sym (here models).blocks) in
                  on_ok c.deliver_rest.result (λ e. e
                  ∙ ap (λ (k : ℕ). g.P.Partition.taken c.args.partition.now + b * k) same) wrote;
              synced = rw p.planned.1 at r.partition.synced;
              unsynced = r.partition.unsynced;
              settled = r.partition.settled;
              lasts = λ partition. on_ok c.deliver_rest.result
                  (λ none q may. leaves_same (moment_of (g.P.Partition.past c.deliver_rest.new.partition)
                  (g.P.Source.content c.deliver_rest.new.partition)) q none may) (r.partition.settled partition);
            };
        mends = λ models spool partition.
            let good = g.met.R.BlockRuns.are_blocks c.args.runs _ (c.requires.opened models) in
            let sized = g.met.R.BlockRuns.sized c.args.runs in
            let small : c.args.limit < 2 ^ 32 = omega arith in
            let granted : 64 + b ≤ c.args.limit = o.granted in
            let some : 0 < b = omega (arith, sized.0) in
            let size : IsBlockSize b = (some, sized.1, omega (arith, granted, small)) in
            let long = g.met.R.BlockRuns.long c.args.runs _ (c.requires.opened models) in
            let within : c.plan_pieces.new.cutter.start.block ≤ g.R.BlockRuns.count c.args.runs =
            rw (p.runs, o.runs) at
            (g.met.R.BlockRuns.bounded c.plan_pieces.new.cutter.runs _ c.plan_pieces.new.cutter.sound.within) in
            let made = rw (o.runs, p.limit, o.limit, p.planned.0, p.planned.1) at (p.told models).cuts in
            let here = behind c.args.limit b all c.args.before c.plan_pieces.new.cutter.start.block Between made
            (inl refl) (omega (arith, long, within)) in
            let stays = rw (p.runs, o.runs, p.source.content models, p.limit, o.limit, p.planned.1) at
            (r.stays models spool partition) in
            let laid = rw (p.runs, o.runs, p.source.content models) at (r.partition.laid models spool partition) in
            record {
              stays = stays;
              stopped = stop_mends _ _ _ _ c.deliver_rest.result _ _ _ _ _ _ _ _ (rw p.planned.1 at r.fails.stops)
                  (rw p.planned.1 at r.partition.synced) stays;
              mends = on_ok c.deliver_rest.result (λ e q done le m. e
                  ∙ mended b all q (g.P.Source.content c.args.partition.now)
                  (blocks_in_first c.args.limit b all done) c.plan_pieces.new.cutter.start.block size good m
                  (rw (← here.blocks) (blocks_grow c.args.limit b all c.args.before done le))) laid;
            };
        mendable = λ models spool partition first none. from_first _ _ _ _ _ first none
            (rw (p.runs, o.runs, p.source.content models, p.limit, o.limit, p.planned.1) at
            (r.stays models spool partition));
        source = reads_then p.source r.source;
        costs =
            let stops = rw p.planned.1 at r.fails.stops in
            let more = rest_more c.args.before c.deliver_rest.result _ _ _ _ stops in
            let planned = p.costs.counted in
            let plan_calls = p.costs.calls in
            let plan_turns = rw o.runs at p.costs.turns in
            let calls = rw p.planned.1 at r.work.calls in
            let turns = rw (p.planned.1, p.runs, o.runs) at r.work.turns in
            record {
              begun = begun c.args.before c.deliver_rest.result;
              counted = rest_begins _ _ c.args.before c.deliver_rest.result _ _ _ _ stops;
              calls = omega (arith, more, planned, plan_calls, calls, p.costs.read);
              turns = omega (arith, more, planned, plan_turns, turns, p.costs.read);
              steps = omega (arith, p.costs.steps, r.work.work.steps);
              greatest = omega (arith, p.costs.greatest, r.work.work.greatest);
            };
      };
      long = rw (p.runs, o.runs) at r.long;
    }

pub returns-clause-reads : goal.returns-clause-reads
returns-clause-reads g c models =
    let o = c.in-Ok.ensures in
    let p = c.in-Ok-plan_pieces.ensures in
    let r = c.deliver_rest.ensures in
    let runs = c.args.runs in
    let b = g.R.BlockRuns.size runs in
    let all = g.R.BlockRuns.list runs (g.S.Source.content c.args.source.now) in
    let long = g.met.R.BlockRuns.long runs _ (c.requires.opened models) in
    let inside : g.R.BlockRuns.within runs c.plan_pieces.new.cutter.start =
    rw (p.runs, o.runs) at c.plan_pieces.new.cutter.sound.within in
    let within = g.met.R.BlockRuns.bounded runs _ inside in
    let made = rw (o.runs, p.limit, o.limit, p.planned.0, p.planned.1) at (p.told models).cuts in
    let here = behind c.args.limit b all c.args.before c.plan_pieces.new.cutter.start.block Between made (inl refl)
    (omega (arith, long, within)) in
    let charged = rw o.runs at p.charged in
    let spent = rw (p.runs, o.runs) at (r.spent models) in
    read_for c.deliver_rest.result (g.R.BlockRuns.within runs) (g.R.BlockRuns.charge runs) (g.W.Way.before runs)
    (g.R.BlockRuns.one runs) (g.W.Way.each runs) (g.W.Way.last runs) (g.W.Way.all runs) _ c.args.before
    (g.S.Source.given c.args.source.now) (g.S.Source.given c.deliver_rest.new.source)
    c.plan_pieces.new.cutter.start (g.S.Source.given c.plan_pieces.new.source) (sym here.blocks) inside
    (omega (arith, charged)) spent

pub returns-clause-few : goal.returns-clause-few
returns-clause-few g c =
    let o = c.in-Ok.ensures in
    let p = c.in-Ok-plan_pieces.ensures in
    few_of c.deliver_rest.result _ _ (rw (p.runs, o.runs, p.planned.1) at c.deliver_rest.ensures.few)

-- ---- what planning and delivering ask for

pub plan_pieces-requires-clause-ready : goal.plan_pieces-requires-clause-ready
plan_pieces-requires-clause-ready g c =
    let o = c.in-Ok.ensures in
    record {
      opened = λ models. rw o.runs (c.requires.opened models);
      told = λ models. rw o.runs (o.told _ (c.requires.opened models));
    }

pub deliver_rest-requires-clause-comes : goal.deliver_rest-requires-clause-comes
deliver_rest-requires-clause-comes g c =
    let p = c.in-Ok-plan_pieces.ensures in
    record { between = p.planned.0; inside = rw p.runs p.inside; few = rw p.runs p.few }

pub deliver_rest-requires-clause-ready : goal.deliver_rest-requires-clause-ready
deliver_rest-requires-clause-ready g c =
    let p = c.in-Ok-plan_pieces.ensures in
    record {
      opened = λ models. rw (p.runs, c.in-Ok.ensures.runs, p.source.content models) (c.requires.opened models);
      told = λ models. rw (p.runs, p.source.content models) (p.told models);
    }

pub deliver_rest-requires-clause-capacity : goal.deliver_rest-requires-clause-capacity
deliver_rest-requires-clause-capacity g c =
    rw (c.in-Ok-plan_pieces.ensures.limit, c.in-Ok.ensures.limit) c.requires.capacity

pub deliver_rest-requires-clause-room : goal.deliver_rest-requires-clause-room
deliver_rest-requires-clause-room g c =
    let room = rw (c.blocks-2.ensures, c.block_size.ensures, c.length.ensures.size) at c.if-is_too_small.ensures in
    rw c.in-Ok-plan_pieces.ensures.runs room

-- ---- what only grows

pub returns-clause-grown : goal.returns-clause-grown
returns-clause-grown g c =
    let p = c.in-Ok-plan_pieces.ensures in
    let w = c.deliver_rest.ensures.work.work in
    (up_on _ _ _ p.costs.read w.given, w.spool_given, w.grown, w.taken)

-- ---- the bytes of all blocks fit 64 bits

pub overflow_mul-need : goal.overflow_mul-need
overflow_mul-need g c =
    let less = mul-lt c.blocks-2.result c.block_size.result 4294967296 4294967296 c.blocks-2.type_inv
    c.block_size.type_inv in
    omega (arith, less)
