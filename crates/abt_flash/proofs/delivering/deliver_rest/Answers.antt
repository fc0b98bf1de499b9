use Rattle.std.specs.Prelude.{IsTrue}
use Rattle.abt_sparse.specs.Pieces.{pieces}
use Rattle.std.proofs.Common.{drop, ◌≡◌, ℕ, ◌+◌, ◌-◌, ◌*◌, ◌≤◌, ◌<◌, ◌^◌, ◌++◌, List, length, Err, refl, sym, ap, ◌∙◌}
use Rattle.std.proofs.Common.{arith, inl, inr, length-append, append-nil}
use Rattle.std.specs.List.{concat}
use Rattle.std.proofs.lemmas.List.{drop_all, drop-drop}
use Rattle.abt_sparse.specs.Block.{Block, IsBlockSize, cells, over}
use Rattle.abt_pieces.specs.Contents.{written_in}
use Rattle.abt_sparse.specs.Laws.{flashed_all}
use Rattle.abt_pieces.specs.Gather.{frame}
use Rattle.abt_pieces.specs.Outline.{piece_at}
use Rattle.abt_pieces.specs.Plan.{FirstPiece}
use Rattle.abt_pieces.specs.Cutter.{has_more}
use Rattle.abt_pieces.specs.declared.stage.CutterStage.{CutterStage}
use Rattle.abt_pieces.specs.declared.stage.CutterStage.TheVariants.{Between, Done}
use Rattle.abt_flash.specs.Delivering.{blocks_in_first, blocks_up_to, pieces_behind, with_cuts}
use Rattle.abt_flash.specs.Going.{IsBehindPiece, Unbroken, frames_left, pieces_left, words_so_far}
use Rattle.abt_flash.proofs.Left.{behind, first_more, laid_first, laid_next, frames_more, pieces_more, written_more}
use Rattle.abt_flash.proofs.Left.{pieces_behind_are, laid_left, stands_left, none_left, one_left, pieces_front}
use Rattle.abt_flash.proofs.Onward.{back_on, blocks_on, greatest_on, long_on, order_on, some_on, steps_on, synced_on}
use Rattle.abt_flash.proofs.Onward.{unsynced_on, up_on, unbroken_first, unbroken_more, still_between, now_done}
use Rattle.abt_flash.proofs.Onward.{few_more, fewer_then, words_more, words_most, words_one, calls_on, turns_on}
use Rattle.abt_flash.proofs.Onward.{spent_more, spent_last, spent_whole}
use Rattle.abt_flash.proofs.Ways.{ends_none, ends_then, no_part_all, no_part_then, so_far}
use Rattle.abt_flash.proofs.Spooled.{fits_none, fits_then, written_then, begins_then, cuts_then}
use Rattle.abt_flash.specs.Delivering.{unsynced_by}
use Rattle.abt_flash_faults.specs.Fault.{refused_syncs}
use Rattle.abt_flash.specs.declared.answer.Delivered.{Delivered}
use Rattle.abt_flash_faults.specs.declared.fault.Cause.{Cause}
use Rattle.abt_flash_faults.specs.declared.fault.Cause.TheVariants as causes
use Rattle.abt_flash_faults.specs.declared.fault.FlashFault.TheVariants.{Stopped}
use Rattle.abt_flash.proofs.Refusing.{stops_since}
use Rattle.abt_flash.proofs.Summing.{both_flashed, stopped_unsynced}
use Rattle.abt_flash.proofs.Staying.{staying_first, staying_more, staying_stop, staying_now, staying_last}
use Rattle.abt_flash.proofs.delivering.deliver_rest.Goals as goal
use Rattle.abt_flash.proofs.delivering.deliver_rest.Goals.{Then-not-more}
use Rattle.abt_flash.proofs.delivering.deliver_rest.Given.{Over}

pub pieces-init : goal.pieces-init
pieces-init g c =
    let b = g.R.BlockRuns.size c.args.cutter.now.runs in
    let all = g.R.BlockRuns.list c.args.cutter.now.runs (g.S.Source.content c.args.source.now) in
    let most = c.args.cutter.now.limit in
    let s = c.args.cutter.now.start.block in
    let is = c.requires.comes.between in
    record {
      runs = refl;
      limit = refl;
      told = c.requires.ready.told;
      kept = λ models. refl;
      long_source = λ models. refl;
      frame = refl;
      unbroken = unbroken_first _ _ _ _ is c.requires.comes.inside;
      few = c.requires.comes.few;
      order = omega arith;
      same_made = refl;
      some = λ d. absurd (let z = sym is ∙ d in cc);
      capacity = refl;
      size = refl;
      same = λ models spool partition. refl;
      unread = (refl, refl);
      fits = fits_none _ _ _;
      written = λ models. ap (λ (st : CutterStage). g.L.Output.written c.args.spool.now
          ++ concat (pieces_left most b all s st)) is;
      cuts = λ models. ap (λ (st : CutterStage). with_cuts (g.L.Spool.cuts c.args.spool.now)
          (length (g.L.Output.written c.args.spool.now)) (pieces_left most b all s st)) is;
      ends = λ late. ends_none _ _ _ _ _ refl refl;
      laid = λ models spool partition.
          ap (λ (st : CutterStage). flashed_all b (g.P.Source.content c.args.partition.now)
          (frames_left most b all s st)) is;
      so_far = λ models spool partition. (omega arith, laid_first b (g.P.Source.content c.args.partition.now) all s);
      stays = λ models spool partition p done le h.
          let long = g.met.R.BlockRuns.long c.args.cutter.now.runs _ (c.requires.ready.opened models) in
          let within = g.met.R.BlockRuns.bounded c.args.cutter.now.runs _ c.args.cutter.now.sound.within in
          let here = behind most b all c.args.cutter.now.made s Between (rw is at (c.requires.ready.told models).cuts)
          (inl refl) (omega (arith, long, within)) in
          staying_first most b all p c.args.cutter.now.made done s _ _ le here.blocks h;
      settled = λ models lt. absurd (omega (arith, lt));
      synced = refl;
      blocks = λ models spool. refl;
      given = omega arith;
      spool_given = omega arith;
      grown = omega arith;
      taken = omega arith;
      long = omega arith;
      back = λ models spool. refl;
      spent = λ models d. omega arith;
      spent_end = λ models d. absurd (let z = sym is ∙ d in cc);
      calls = omega arith;
      turns = omega arith;
      steps = omega arith;
      greatest = omega arith;
      read_faults = refl;
      write_faults = refl;
      spool_faults = refl;
      put_faults = refl;
      unsynced = refl;
    }

pub pieces-preserved : goal.pieces-preserved
pieces-preserved g c =
    let i = c.pieces.invariant in
    let e = c.deliver_piece.ensures in
    let o = c.in-Ok.ensures in
    let n = g.R.BlockRuns.count c.args.cutter.now.runs in
    let b = g.R.BlockRuns.size c.args.cutter.now.runs in
    let one = g.R.BlockRuns.one c.args.cutter.now.runs in
    let all = g.R.BlockRuns.list c.args.cutter.now.runs (g.S.Source.content c.args.source.now) in
    let most = c.args.cutter.now.limit in
    let given = g.S.Source.given in
    let passes = g.W.Way.before c.args.cutter.now.runs in
    let each = g.W.Way.each c.args.cutter.now.runs in
    let last = g.W.Way.last c.args.cutter.now.runs in
    let s = c.pieces.cutter.start.block in
    let next = c.deliver_piece.new.cutter.start.block in
    let st = c.deliver_piece.new.cutter.stage in
    let is : c.pieces.cutter.stage ≡ Between =
    still_between _ _ _ _ i.unbroken (sym c.more.ensures ∙ c.if-not-more.false) in
    let at : IsBehindPiece n next st = rw i.runs at o.behind.stands in
    let left : c.pieces.cutter.made ≤ s = c.pieces.cutter.sound.left (ap has_more is) in
    let inside = i.unbroken.between is in
    let unbroken : Unbroken n c.deliver_piece.new.cutter.made next st =
    rw (o.behind.made) (unbroken_more n c.pieces.cutter.made next st at) in
    let words : words_so_far one n s Between + _ ≤ words_so_far one n next st =
    words_more one n s next st (rw i.runs at o.behind.moves) at in
    record {
      runs = e.same.0 ∙ i.runs;
      limit = e.same.1 ∙ i.limit;
      told = λ models. rw (i.runs, i.kept models) at (e.told models);
      kept = λ models. e.source.content models ∙ i.kept models;
      long_source = λ models. e.source.size models ∙ i.long_source models;
      frame = e.source.frame ∙ i.frame;
      unbroken = unbroken;
      few = rw o.behind.made (few_more n c.pieces.cutter.made s left inside);
      order = order_on _ _ _ i.order o.behind.made;
      same_made = i.same_made;
      some = λ d. some_on _ _ _ i.order o.behind.made;
      capacity = e.spool.capacity ∙ i.capacity;
      size = e.partition.size ∙ i.size;
      same = λ models spool partition. (e.partition.touches models spool partition).kept.same
          ∙ i.same models spool partition;
      unread = (e.partition.unread.0 ∙ i.unread.0, e.partition.unread.1 ∙ i.unread.1);
      fits = fits_then _ _ _ _ _ _ _ i.fits (rw i.limit at e.spool.fits);
      written = λ models.
          let h : FirstPiece b all most s next = rw (i.runs, i.kept models, i.limit) at (o.greatest_end models) in
          let long = g.met.R.BlockRuns.long c.args.cutter.now.runs _ (c.requires.ready.opened models) in
          let more = ap (λ (t : CutterStage). pieces_left most b all s t) is
          ∙ pieces_more most b all s next st h (rw (← long) at at) in
          written_then (g.L.Output.written c.pieces.spool) (g.L.Output.written c.deliver_piece.new.spool) _
          (piece_at b most all s) (pieces_left most b all next st)
          (ap (λ (xs : List (List ℕ)). g.L.Output.written c.pieces.spool ++ concat xs) (sym more) ∙ i.written models)
          (rw (i.runs, i.kept models, i.limit) at (o.spool.written models));
      cuts = λ models.
          let h : FirstPiece b all most s next = rw (i.runs, i.kept models, i.limit) at (o.greatest_end models) in
          let long = g.met.R.BlockRuns.long c.args.cutter.now.runs _ (c.requires.ready.opened models) in
          let more = ap (λ (t : CutterStage). pieces_left most b all s t) is
          ∙ pieces_more most b all s next st h (rw (← long) at at) in
          let wrote : g.L.Output.written c.deliver_piece.new.spool ≡ g.L.Output.written c.pieces.spool
          ++ piece_at b most all s = rw (i.runs, i.kept models, i.limit) at (o.spool.written models) in
          cuts_then (g.L.Spool.cuts c.pieces.spool) (g.L.Spool.cuts c.deliver_piece.new.spool) _
          (length (g.L.Output.written c.pieces.spool)) (length (g.L.Output.written c.deliver_piece.new.spool))
          (piece_at b most all s) (pieces_left most b all next st)
          (ap (λ (xs : List (List ℕ)). with_cuts (g.L.Spool.cuts c.pieces.spool)
          (length (g.L.Output.written c.pieces.spool)) xs) (sym more) ∙ i.cuts models) o.spool.cut
          (ap length wrote ∙ length-append (g.L.Output.written c.pieces.spool) (piece_at b most all s));
      ends = λ late. ends_then _ _ _ _ _ _ _ (i.ends late) (rw i.runs at (e.spool.ends late));
      laid = λ models spool partition.
          let h : FirstPiece b all most s next = rw (i.runs, i.kept models, i.limit) at (o.greatest_end models) in
          let long = g.met.R.BlockRuns.long c.args.cutter.now.runs _ (c.requires.ready.opened models) in
          let more = ap (λ (t : CutterStage). frames_left most b all s t) is
          ∙ frames_more most b all s next st h (rw (← long) at at) in
          ap (λ (p : List ℕ). flashed_all b p (frames_left most b all next st))
          (rw (i.runs, i.kept models) at (o.partition.laid models spool partition))
          ∙ sym (ap (λ (fs : List (List Block)). flashed_all b (g.P.Source.content c.pieces.partition) fs) more)
          ∙ i.laid models spool partition;
      so_far = λ models spool partition.
          let h : FirstPiece b all most s next = rw (i.runs, i.kept models, i.limit) at (o.greatest_end models) in
          let good = g.met.R.BlockRuns.are_blocks c.args.cutter.now.runs _ (c.requires.ready.opened models) in
          let before = i.so_far models spool partition in
          let from = before.0 in (
            omega (arith, from, h.order),
            laid_next b (g.P.Source.content c.args.partition.now)
                (g.P.Source.content c.pieces.partition) (g.P.Source.content c.deliver_piece.new.partition) all
                c.args.cutter.now.start.block s next (g.met.R.BlockRuns.sized c.args.cutter.now.runs).1 good from
                h.order h.within before.1 (rw (i.runs, i.kept models) at (o.partition.laid models spool partition)),
          );
      stays = λ models spool partition p done le entry.
          let h : FirstPiece b all most s next = rw (i.runs, i.kept models, i.limit) at (o.greatest_end models) in
          let long = g.met.R.BlockRuns.long c.args.cutter.now.runs _ (c.requires.ready.opened models) in
          let good = g.met.R.BlockRuns.are_blocks c.args.cutter.now.runs _ (c.requires.ready.opened models) in
          let sized = g.met.R.BlockRuns.sized c.args.cutter.now.runs in
          let granted : 64 + b ≤ c.args.cutter.now.limit = c.args.cutter.now.sound.granted in
          let small : c.args.cutter.now.limit < 2 ^ 32 = omega arith in
          let some : 0 < b = omega (arith, sized.0) in
          let size : IsBlockSize b = (some, sized.1, omega (arith, granted, small)) in
          let before = rw (i.limit, is) at (i.told models).cuts in
          let here = behind most b all c.pieces.cutter.made s Between before (inl refl)
          (omega (arith, h.order, h.within)) in
          let behind_it = rw (e.same.1, i.limit, i.runs, i.kept models, o.behind.made) at (e.told models).cuts in
          let then_on = behind most b all (c.pieces.cutter.made + 1) next st behind_it
          (stands_left (length all) next st (rw (← long) at at)) h.within in
          staying_more most b all p c.args.cutter.now.made
          (g.P.Partition.past c.args.partition.now).synced c.pieces.cutter.made s
          (g.P.Partition.past c.args.partition.now).moments
          (g.P.Partition.past c.pieces.partition) (g.P.Partition.past c.deliver_piece.new.partition)
          (g.P.Source.content c.pieces.partition) (g.P.Source.content c.deliver_piece.new.partition)
          size good (omega (arith, h.order, h.within)) i.synced i.order here.blocks
          (i.stays models spool partition p done le entry)
          (rw (i.runs, i.kept models, i.limit) at (e.partition.touches models spool partition).moments)
          next h.order h.within o.partition.synced then_on.blocks (o.partition.settled partition)
          (rw (i.runs, i.kept models) at (o.partition.laid models spool partition));
      settled = λ models lt. o.partition.settled models;
      synced = synced_on _ _ _ _ _ _ i.synced o.partition.synced o.behind.made;
      blocks = λ models spool.
          let h : FirstPiece b all most s next = rw (i.runs, i.kept models, i.limit) at (o.greatest_end models) in
          blocks_on b _ _ _ _ _ _ (rw (i.runs, i.kept models) at (o.partition.blocks models spool))
          (written_more all s next h.order) (i.blocks models spool);
      given = up_on _ _ _ i.given e.work.work.given;
      spool_given = up_on _ _ _ i.spool_given e.work.work.spool_given;
      grown = up_on _ _ _ i.grown e.work.work.grown;
      taken = up_on _ _ _ i.taken e.work.work.taken;
      long = long_on _ _ _ _ _ _ _ _ _ (rw i.runs at o.takes.takes) i.long o.behind.made;
      back = λ models spool. back_on _ _ _ _ _ _ (o.spool.back models spool) (i.back models spool);
      spent = λ models d. spent_more (given c.args.source.now) (given c.pieces.source)
          (given c.deliver_piece.new.source) (passes c.args.cutter.now.start) (passes c.pieces.cutter.start)
          (passes c.deliver_piece.new.cutter.start) c.args.cutter.now.made c.pieces.cutter.made
          c.deliver_piece.new.cutter.made each o.behind.made (rw i.runs at (o.takes.spent models)) (i.spent models is);
      spent_end = λ models d. spent_last (given c.args.source.now) (given c.pieces.source)
          (given c.deliver_piece.new.source) (passes c.args.cutter.now.start) (passes c.pieces.cutter.start)
          (passes c.deliver_piece.new.cutter.start) c.args.cutter.now.made c.pieces.cutter.made
          c.deliver_piece.new.cutter.made each last o.behind.made ((rw i.runs at (o.takes.spent_end models))
          (unbroken.done d).1) (i.spent models is);
      calls = calls_on _ _ _ _ _ _ _ _ _ e.work.calls i.calls o.behind.made;
      turns = turns_on _ _ _ _ _ _ _ _ _ _ _ _ _ c.tick.ensures.turns (rw i.runs at o.work.words_most) words
          (rw is at i.turns) o.behind.made;
      steps = steps_on _ _ _ _ _ _ _ e.work.work.steps i.steps c.tick.ensures.steps;
      greatest = greatest_on _ _ _ _ e.work.work.greatest i.greatest c.tick.ensures.greatest;
      read_faults = o.fails.clean.read ∙ i.read_faults;
      write_faults = o.fails.clean.write ∙ i.write_faults;
      spool_faults = o.fails.clean.spool ∙ i.spool_faults;
      put_faults = o.fails.clean.put ∙ i.put_faults;
      unsynced = unsynced_on _ _ _ _ _ _ i.unsynced o.partition.unsynced;
    }

pub pieces-smaller : goal.pieces-smaller
pieces-smaller g c =
    let i = c.pieces.invariant in
    let o = c.in-Ok.ensures in
    let is : c.pieces.cutter.stage ≡ Between =
    still_between _ _ _ _ i.unbroken (sym c.more.ensures ∙ c.if-not-more.false) in
    fewer_then (g.R.BlockRuns.count c.args.cutter.now.runs) c.pieces.cutter.made c.pieces.cutter.start.block
    c.deliver_piece.new.cutter.made (c.pieces.cutter.sound.left (ap has_more is))
    (i.unbroken.between is) o.behind.made

-- ---- after the last piece

-- all that was written
all_written : (g : Over) (c : Then-not-more g) → IsTrue g.S.Source.models
    → g.L.Output.written c.pieces.spool ≡ g.L.Output.written c.args.spool.now
    ++ concat (pieces_behind c.args.cutter.now.limit (g.R.BlockRuns.size c.args.cutter.now.runs)
    (g.R.BlockRuns.list c.args.cutter.now.runs (g.S.Source.content c.args.source.now)) c.args.cutter.now.made)
all_written g c models =
    let i = c.pieces.invariant in
    let b = g.R.BlockRuns.size c.args.cutter.now.runs in
    let all = g.R.BlockRuns.list c.args.cutter.now.runs (g.S.Source.content c.args.source.now) in
    let most = c.args.cutter.now.limit in
    let is : c.pieces.cutter.stage ≡ Done = now_done _ _ _ _ i.unbroken (sym c.more.ensures ∙ c.if-not-more.true) in
    let long = g.met.R.BlockRuns.long c.args.cutter.now.runs _ (c.requires.ready.opened models) in
    let within = g.met.R.BlockRuns.bounded c.args.cutter.now.runs _ c.args.cutter.now.sound.within in
    let here = behind most b all c.args.cutter.now.made c.args.cutter.now.start.block Between
    (rw c.requires.comes.between at (c.requires.ready.told models).cuts) (inl refl) (omega (arith, long, within)) in
    let all_of = pieces_behind_are most b all c.args.cutter.now.made c.args.cutter.now.start.block Between here in
    sym (append-nil (g.L.Output.written c.pieces.spool))
    ∙ sym (ap (λ (st : CutterStage). g.L.Output.written c.pieces.spool
    ++ concat (pieces_left most b all c.pieces.cutter.start.block st)) is)
    ∙ i.written models
    ∙ ap (λ (xs : List (List ℕ)). g.L.Output.written c.args.spool.now ++ concat xs) (sym all_of)

pub returns-then-not-more-clause-spool : goal.returns-then-not-more-clause-spool
returns-then-not-more-clause-spool g c = record {
  room = c.pieces.invariant.capacity;
  fits = c.pieces.invariant.fits;
  written = λ models. rw c.delivered.ensures
      (all_written g ((goal.at.returns-then-not-more-clause-spool g c).Then-not-more) models);
  cuts = λ models.
      let i = c.pieces.invariant in
      let b = g.R.BlockRuns.size c.args.cutter.now.runs in
      let all = g.R.BlockRuns.list c.args.cutter.now.runs (g.S.Source.content c.args.source.now) in
      let most = c.args.cutter.now.limit in
      let is : c.pieces.cutter.stage ≡ Done = now_done _ _ _ _ i.unbroken (sym c.more.ensures ∙ c.if-not-more.true) in
      let long = g.met.R.BlockRuns.long c.args.cutter.now.runs _ (c.requires.ready.opened models) in
      let within = g.met.R.BlockRuns.bounded c.args.cutter.now.runs _ c.args.cutter.now.sound.within in
      let here = behind most b all c.args.cutter.now.made c.args.cutter.now.start.block Between
      (rw c.requires.comes.between at (c.requires.ready.told models).cuts) (inl refl)
      (omega (arith, long, within)) in
      let all_of = pieces_behind_are most b all c.args.cutter.now.made c.args.cutter.now.start.block Between here in
      rw c.delivered.ensures (
      sym (ap (λ (st : CutterStage). with_cuts (g.L.Spool.cuts c.pieces.spool)
      (length (g.L.Output.written c.pieces.spool)) (pieces_left most b all c.pieces.cutter.start.block st)) is)
      ∙ i.cuts models
      ∙ ap (λ (xs : List (List ℕ)). with_cuts (g.L.Spool.cuts c.args.spool.now)
      (length (g.L.Output.written c.args.spool.now)) xs) (sym all_of));
  begins = λ forward models.
      let i = c.pieces.invariant in
      let b = g.R.BlockRuns.size c.args.cutter.now.runs in
      let all = g.R.BlockRuns.list c.args.cutter.now.runs (g.S.Source.content c.args.source.now) in
      let most = c.args.cutter.now.limit in
      let long = g.met.R.BlockRuns.long c.args.cutter.now.runs _ (c.requires.ready.opened models) in
      let within = g.met.R.BlockRuns.bounded c.args.cutter.now.runs _ c.args.cutter.now.sound.within in
      let here = behind most b all c.args.cutter.now.made c.args.cutter.now.start.block Between
      (rw c.requires.comes.between at (c.requires.ready.told models).cuts) (inl refl)
      (omega (arith, long, within)) in
      let all_of = pieces_behind_are most b all c.args.cutter.now.made c.args.cutter.now.start.block Between here in
      record {
        more = concat (pieces_left most b all c.pieces.cutter.start.block c.pieces.cutter.stage);
        joined = i.written models ∙ ap (λ (xs : List (List ℕ)). g.L.Output.written c.args.spool.now ++ concat xs)
            (sym all_of);
      };
  no_part = λ late models. no_part_all _ _ (g.L.Spool.cuts c.pieces.spool) _
      (all_written g ((goal.at.returns-then-not-more-clause-spool g c).Then-not-more) models);
  ends = λ late. c.pieces.invariant.ends late;
  back = λ models spool. rw c.delivered.ensures (c.pieces.invariant.back models spool);
}

pub returns-then-not-more-clause-partition : goal.returns-then-not-more-clause-partition
returns-then-not-more-clause-partition g c = record {
  size = c.pieces.invariant.size;
  unread = c.pieces.invariant.unread;
  laid = λ models spool partition.
      let i = c.pieces.invariant in
      let b = g.R.BlockRuns.size c.args.cutter.now.runs in
      let all = g.R.BlockRuns.list c.args.cutter.now.runs (g.S.Source.content c.args.source.now) in
      let most = c.args.cutter.now.limit in
      let is : c.pieces.cutter.stage ≡ Done = now_done _ _ _ _ i.unbroken (sym c.more.ensures ∙ c.if-not-more.true) in
      let good = g.met.R.BlockRuns.are_blocks c.args.cutter.now.runs _ (c.requires.ready.opened models) in
      let sized = g.met.R.BlockRuns.sized c.args.cutter.now.runs in
      rw c.delivered.ensures (
      sym (ap (λ (st : CutterStage). flashed_all b (g.P.Source.content c.pieces.partition)
      (frames_left most b all c.pieces.cutter.start.block st)) is)
      ∙ i.laid models spool partition
      ∙ laid_left most b (g.P.Source.content c.args.partition.now) all c.args.cutter.now.start.block Between sized.1
      good (inl refl));
  laid_up_to = λ models spool partition. rw c.delivered.ensures tt;
  settled = λ models.
      let i = c.pieces.invariant in
      rw c.delivered.ensures
      (i.settled models (i.some (now_done _ _ _ _ i.unbroken (sym c.more.ensures ∙ c.if-not-more.true))));
  synced =
      let i = c.pieces.invariant in
      let synced = i.synced in
      let same = i.same_made in
      let order = i.order in
      rw c.delivered.ensures (omega (arith, synced, same, order));
  unsynced =
      let unsynced = c.pieces.invariant.unsynced in
      rw c.delivered.ensures (omega (arith, unsynced));
  blocks = λ models spool.
      let i = c.pieces.invariant in
      let b = g.R.BlockRuns.size c.args.cutter.now.runs in
      let all = g.R.BlockRuns.list c.args.cutter.now.runs (g.S.Source.content c.args.source.now) in
      let is : c.pieces.cutter.stage ≡ Done = now_done _ _ _ _ i.unbroken (sym c.more.ensures ∙ c.if-not-more.true) in
      let long = g.met.R.BlockRuns.long c.args.cutter.now.runs _ (c.requires.ready.opened models) in
      let end : g.R.BlockRuns.count c.args.cutter.now.runs ≤ c.pieces.cutter.start.block = (i.unbroken.done is).1 in
      let none = ap (λ (l : List Block). b * written_in l)
      (drop_all c.pieces.cutter.start.block all (omega (arith, long, end))) in
      let blocks = i.blocks models spool in
      rw c.delivered.ensures (omega (arith, none, blocks));
}

pub returns-then-not-more-clause-stays : goal.returns-then-not-more-clause-stays
returns-then-not-more-clause-stays g c models spool partition =
    let i = c.pieces.invariant in
    let b = g.R.BlockRuns.size c.args.cutter.now.runs in
    let all = g.R.BlockRuns.list c.args.cutter.now.runs (g.S.Source.content c.args.source.now) in
    let most = c.args.cutter.now.limit in
    let is : c.pieces.cutter.stage ≡ Done = now_done _ _ _ _ i.unbroken (sym c.more.ensures ∙ c.if-not-more.true) in
    let long = g.met.R.BlockRuns.long c.args.cutter.now.runs _ (c.requires.ready.opened models) in
    let end : g.R.BlockRuns.count c.args.cutter.now.runs ≤ c.pieces.cutter.start.block = (i.unbroken.done is).1 in
    let within : c.pieces.cutter.start.block ≤ g.R.BlockRuns.count c.args.cutter.now.runs =
    rw i.runs at (g.met.R.BlockRuns.bounded c.pieces.cutter.runs _ c.pieces.cutter.sound.within) in
    let here = behind most b all c.pieces.cutter.made c.pieces.cutter.start.block Done
    (rw (i.limit, is) at (i.told models).cuts) (inr (refl, omega (arith, long, end)))
    (omega (arith, long, within)) in
    record {
      same = i.same models spool partition;
      since = λ p done le entry. (i.stays models spool partition p done le entry).since;
      now = λ p done le entry. staying_last most b all p c.args.cutter.now.made
          (g.P.Partition.past c.args.partition.now).synced c.pieces.cutter.made c.pieces.cutter.start.block
          (g.P.Partition.past c.args.partition.now).moments (g.P.Partition.past c.pieces.partition)
          (g.P.Source.content c.pieces.partition) i.synced i.order here.blocks
          (i.stays models spool partition p done le entry);
    }

pub returns-then-not-more-clause-spent : goal.returns-then-not-more-clause-spent
returns-then-not-more-clause-spent g c models =
    let i = c.pieces.invariant in
    let runs = c.args.cutter.now.runs in
    let is : c.pieces.cutter.stage ≡ Done = now_done _ _ _ _ i.unbroken (sym c.more.ensures ∙ c.if-not-more.true) in
    let inside : g.R.BlockRuns.within runs c.pieces.cutter.start = rw i.runs at c.pieces.cutter.sound.within in
    let most = g.met.W.Way.bounded runs c.pieces.cutter.start inside in
    let same = i.same_made in
    let order = i.order in
    rw c.delivered.ensures (spent_whole (g.S.Source.given c.args.source.now) (g.S.Source.given c.pieces.source)
    (g.W.Way.before runs c.args.cutter.now.start)
    (g.W.Way.before runs c.pieces.cutter.start) c.args.cutter.now.made c.pieces.cutter.made _ (g.W.Way.each runs)
    (g.W.Way.all runs) (g.W.Way.last runs) (omega (arith, order, same)) most (i.spent_end models is))

-- ---- what is stored in the spool, headers last

pub returns-in-Err-clause-spool : goal.returns-in-Err-clause-spool
returns-in-Err-clause-spool g c = record {
  room = c.deliver_piece.ensures.spool.capacity ∙ c.pieces.invariant.capacity;
  fits = fits_then _ _ _ _ _ _ _ c.pieces.invariant.fits
      (rw c.pieces.invariant.limit at c.deliver_piece.ensures.spool.fits);
  written = λ models. tt;
  cuts = λ models. tt;
  begins = λ forward models.
      let i = c.pieces.invariant in
      let b = g.R.BlockRuns.size c.args.cutter.now.runs in
      let all = g.R.BlockRuns.list c.args.cutter.now.runs (g.S.Source.content c.args.source.now) in
      let most = c.args.cutter.now.limit in
      let s = c.pieces.cutter.start.block in
      let is : c.pieces.cutter.stage ≡ Between =
      still_between _ _ _ _ i.unbroken (sym c.more.ensures ∙ c.if-not-more.false) in
      let long = g.met.R.BlockRuns.long c.args.cutter.now.runs _ (c.requires.ready.opened models) in
      let first = g.met.R.BlockRuns.bounded c.args.cutter.now.runs _ c.args.cutter.now.sound.within in
      let within : s ≤ g.R.BlockRuns.count c.args.cutter.now.runs =
      rw i.runs at (g.met.R.BlockRuns.bounded c.pieces.cutter.runs _ c.pieces.cutter.sound.within) in
      let here = behind most b all c.args.cutter.now.made c.args.cutter.now.start.block Between
      (rw c.requires.comes.between at (c.requires.ready.told models).cuts) (inl refl)
      (omega (arith, long, first)) in
      let all_of = pieces_behind_are most b all c.args.cutter.now.made c.args.cutter.now.start.block Between here in
      let front = pieces_front most b all s (omega (arith, long, within)) in
      let more = ap (λ (t : CutterStage). pieces_left most b all s t) is ∙ front.1 in
      begins_then (g.L.Output.written c.pieces.spool) (g.L.Output.written c.deliver_piece.new.spool) _
      (piece_at b most all s) front.0
      (ap (λ (xs : List (List ℕ)). g.L.Output.written c.pieces.spool ++ concat xs) (sym more) ∙ i.written models
      ∙ ap (λ (xs : List (List ℕ)). g.L.Output.written c.args.spool.now ++ concat xs) (sym all_of))
      (rw (i.runs, i.kept models, i.limit) at (c.deliver_piece.ensures.spool.begins forward models));
  no_part = λ late models.
      let i = c.pieces.invariant in
      let b = g.R.BlockRuns.size c.args.cutter.now.runs in
      let all = g.R.BlockRuns.list c.args.cutter.now.runs (g.S.Source.content c.args.source.now) in
      let most = c.args.cutter.now.limit in
      let s = c.pieces.cutter.start.block in
      let first = c.args.cutter.now.made in
      let made = c.pieces.cutter.made in
      let is : c.pieces.cutter.stage ≡ Between =
      still_between _ _ _ _ i.unbroken (sym c.more.ensures ∙ c.if-not-more.false) in
      let long = g.met.R.BlockRuns.long c.args.cutter.now.runs _ (c.requires.ready.opened models) in
      let bounded = g.met.R.BlockRuns.bounded c.args.cutter.now.runs _ c.args.cutter.now.sound.within in
      let within : s ≤ g.R.BlockRuns.count c.args.cutter.now.runs =
      rw i.runs at (g.met.R.BlockRuns.bounded c.pieces.cutter.runs _ c.pieces.cutter.sound.within) in
      let here = behind most b all first c.args.cutter.now.start.block Between
      (rw c.requires.comes.between at (c.requires.ready.told models).cuts) (inl refl)
      (omega (arith, long, bounded)) in
      let there = behind most b all made s Between (rw (i.limit, is) at (i.told models).cuts) (inl refl)
      (omega (arith, long, within)) in
      let all_of = pieces_behind_are most b all first c.args.cutter.now.start.block Between here in
      let left = pieces_behind_are most b all made s Between there in
      let front = pieces_front most b all s (omega (arith, long, within)) in
      let order = i.order in
      let then : drop (made - first) (pieces_behind most b all first) ≡ pieces_left most b all s Between =
      drop-drop (made - first) first (pieces most b all)
      ∙ ap (λ (n : ℕ). drop n (pieces most b all)) (let z : first + (made - first) ≡ made = omega
      (arith, order) in z) ∙ left in
      let wrote = so_far (g.L.Output.written c.args.spool.now) (g.L.Output.written c.pieces.spool)
      (pieces_behind most b all first) (made - first)
      (ap (λ (xs : List (List ℕ)). g.L.Output.written c.pieces.spool ++ concat xs) (then
      ∙ ap (λ (t : CutterStage). pieces_left most b all s t) (sym is)) ∙ i.written models
      ∙ ap (λ (xs : List (List ℕ)). g.L.Output.written c.args.spool.now ++ concat xs) (sym all_of)) in
      no_part_then _ _ _ (g.L.Spool.cuts c.deliver_piece.new.spool) _ (made - first)
      (piece_at b most all s) front.0 wrote (then ∙ front.1)
      (rw (i.runs, i.kept models, i.limit) at (c.deliver_piece.ensures.spool.no_part late models));
  ends = λ late. let i = c.pieces.invariant in
      ends_then _ _ _ _ _ _ _ (i.ends late) (rw i.runs at (c.deliver_piece.ensures.spool.ends late));
  back = λ models spool. tt;
}

-- ---- where a piece was stopped

refused_stop : (j : ℕ) (c : Cause) → refused_syncs {X = Delivered} (Err (Stopped j c)) ≡ unsynced_by (Err c)
refused_stop j (causes.Sync d) = refl
refused_stop j (causes.Read d) = refl
refused_stop j (causes.Write d) = refl
refused_stop j causes.SourceChanged = refl
refused_stop j (causes.SpoolWrite d) = refl
refused_stop j (causes.SpoolRead d) = refl
refused_stop j causes.SpoolChanged = refl

pub returns-in-Err-clause-partition : goal.returns-in-Err-clause-partition
returns-in-Err-clause-partition g c = record {
  size = c.deliver_piece.ensures.partition.size ∙ c.pieces.invariant.size;
  unread = (
    c.deliver_piece.ensures.partition.unread.0 ∙ c.pieces.invariant.unread.0,
    c.deliver_piece.ensures.partition.unread.1 ∙ c.pieces.invariant.unread.1,
  );
  laid = λ models spool partition. tt;
  laid_up_to = λ models spool partition.
      let i = c.pieces.invariant in
      let e = c.in-Err.ensures in
      let b = g.R.BlockRuns.size c.args.cutter.now.runs in
      let all = g.R.BlockRuns.list c.args.cutter.now.runs (g.S.Source.content c.args.source.now) in
      let most = c.args.cutter.now.limit in
      let s = c.pieces.cutter.start.block in
      let next = c.deliver_piece.new.cutter.start.block in
      let is : c.pieces.cutter.stage ≡ Between =
      still_between _ _ _ _ i.unbroken (sym c.more.ensures ∙ c.if-not-more.false) in
      let long = g.met.R.BlockRuns.long c.args.cutter.now.runs _ (c.requires.ready.opened models) in
      let good = g.met.R.BlockRuns.are_blocks c.args.cutter.now.runs _ (c.requires.ready.opened models) in
      let within : s ≤ g.R.BlockRuns.count c.args.cutter.now.runs =
      rw i.runs at (g.met.R.BlockRuns.bounded c.pieces.cutter.runs _ c.pieces.cutter.sound.within) in
      let here = behind most b all c.pieces.cutter.made s Between (rw (i.limit, is) at (i.told models).cuts)
      (inl refl) (omega (arith, long, within)) in
      let before = i.so_far models spool partition in
      let ends = rw (i.runs, i.kept models, i.limit) at (e.greatest_end models) in
      let laid = rw (i.runs, i.kept models) at (e.partition.laid models spool partition) in
      let old = g.P.Source.content c.args.partition.now in
      let new = g.P.Source.content c.deliver_piece.new.partition in
      let first = c.args.cutter.now.start.block in
      let P = λ (j : ℕ). new ≡ over old (cells b (blocks_up_to first (blocks_in_first most b all j) all)) in
      stopped_unsynced c.next_number-piece.result c.in-Err.cause (FirstPiece b all most s next
      × (new ≡ over (g.P.Source.content c.pieces.partition) (cells b (frame all s next)))) P
      (λ both. rw (c.next_number-piece.ensures, first_more most b all c.pieces.cutter.made s next here both.0)
      (laid_next b old (g.P.Source.content c.pieces.partition) new all first s next
      (g.met.R.BlockRuns.sized c.args.cutter.now.runs).1 good before.0 both.0.order both.0.within before.1 both.1))
      (both_flashed c.in-Err.cause _ _ ends laid);
  settled = λ models. tt;
  synced =
      let i = c.pieces.invariant in
      let synced = c.in-Err.ensures.partition.synced in
      omega (arith, synced, i.synced, c.next_number-piece.ensures);
  unsynced =
      let i = c.pieces.invariant in
      let one = c.in-Err.ensures.partition.unsynced in
      let same = refused_stop c.next_number-piece.result c.in-Err.cause in
      omega (arith, one, same, i.unsynced);
  blocks = λ models spool. tt;
}

pub returns-in-Err-clause-fails : goal.returns-in-Err-clause-fails
returns-in-Err-clause-fails g c = record {
  faults =
      let i = c.pieces.invariant in
      let e = c.deliver_piece.ensures in
      record {
        read = omega (arith, i.read_faults, e.fails.faults.read);
        write = omega (arith, i.write_faults, e.fails.faults.write);
        spool = omega (arith, i.spool_faults, e.fails.faults.spool);
        put = omega (arith, i.put_faults, e.fails.faults.put);
      };
  stops =
      let i = c.pieces.invariant in
      let order = i.order in
      let next = c.next_number-piece.ensures in (
        omega (arith, order, next),
        stops_since c.in-Err.cause _ _ _ _ _
            (record {
              read = omega (arith, i.read_faults);
              write = omega (arith, i.write_faults);
              spool = omega (arith, i.spool_faults);
              put = omega (arith, i.put_faults);
            }) c.in-Err.ensures.fails.cause,
      );
  clean = tt;
}

pub returns-in-Err-clause-counted : goal.returns-in-Err-clause-counted
returns-in-Err-clause-counted g c models =
    let i = c.pieces.invariant in
    let b = g.R.BlockRuns.size c.args.cutter.now.runs in
    let all = g.R.BlockRuns.list c.args.cutter.now.runs (g.S.Source.content c.args.source.now) in
    let is : c.pieces.cutter.stage ≡ Between =
    still_between _ _ _ _ i.unbroken (sym c.more.ensures ∙ c.if-not-more.false) in
    let left = one_left c.args.cutter.now.limit b all c.pieces.cutter.made c.pieces.cutter.start.block
    (rw (i.limit, is) at (i.told models).cuts) in
    rw c.next_number-piece.ensures left

pub returns-in-Err-clause-stays : goal.returns-in-Err-clause-stays
returns-in-Err-clause-stays g c models spool partition =
    let i = c.pieces.invariant in
    let e = c.deliver_piece.ensures in
    let b = g.R.BlockRuns.size c.args.cutter.now.runs in
    let all = g.R.BlockRuns.list c.args.cutter.now.runs (g.S.Source.content c.args.source.now) in
    let most = c.args.cutter.now.limit in
    let s = c.pieces.cutter.start.block in
    let is : c.pieces.cutter.stage ≡ Between =
    still_between _ _ _ _ i.unbroken (sym c.more.ensures ∙ c.if-not-more.false) in
    let long = g.met.R.BlockRuns.long c.args.cutter.now.runs _ (c.requires.ready.opened models) in
    let good = g.met.R.BlockRuns.are_blocks c.args.cutter.now.runs _ (c.requires.ready.opened models) in
    let sized = g.met.R.BlockRuns.sized c.args.cutter.now.runs in
    let granted : 64 + b ≤ c.args.cutter.now.limit = c.args.cutter.now.sound.granted in
    let small : c.args.cutter.now.limit < 2 ^ 32 = omega arith in
    let some : 0 < b = omega (arith, sized.0) in
    let size : IsBlockSize b = (some, sized.1, omega (arith, granted, small)) in
    let within : s ≤ g.R.BlockRuns.count c.args.cutter.now.runs =
    rw i.runs at (g.met.R.BlockRuns.bounded c.pieces.cutter.runs _ c.pieces.cutter.sound.within) in
    let inside : s ≤ length all = omega (arith, long, within) in
    let here = behind most b all c.pieces.cutter.made s Between (rw (i.limit, is) at (i.told models).cuts)
    (inl refl) inside in
    let moments = rw (i.runs, i.kept models, i.limit) at (e.partition.touches models spool partition).moments in
    let kept = rw (i.runs, i.kept models, i.limit) at (e.partition.touches models spool partition).kept in
    let syncs : (g.P.Partition.past c.deliver_piece.new.partition).synced ≡
    (g.P.Partition.past c.pieces.partition).synced = omega (arith, c.in-Err.ensures.partition.synced) in
    record {
      same = kept.same ∙ i.same models spool partition;
      since = λ p done le entry. staying_stop most b all p c.args.cutter.now.made
          (g.P.Partition.past c.args.partition.now).synced c.pieces.cutter.made s
          (g.P.Partition.past c.args.partition.now).moments
          (g.P.Partition.past c.pieces.partition) (g.P.Partition.past c.deliver_piece.new.partition)
          (g.P.Source.content c.pieces.partition) (g.P.Source.content c.deliver_piece.new.partition)
          size good inside i.synced i.order here.blocks (i.stays models spool partition p done le entry) moments syncs;
      now = λ p done le entry. staying_now most b all p c.args.cutter.now.made
          (g.P.Partition.past c.args.partition.now).synced c.pieces.cutter.made s
          (g.P.Partition.past c.args.partition.now).moments
          (g.P.Partition.past c.pieces.partition) (g.P.Partition.past c.deliver_piece.new.partition)
          (g.P.Source.content c.pieces.partition) (g.P.Source.content c.deliver_piece.new.partition)
          size good inside i.synced i.order here.blocks (i.stays models spool partition p done le entry) moments syncs
          kept;
    }

-- ---- the rest after the last piece

pub returns-then-not-more-clause-fails : goal.returns-then-not-more-clause-fails
returns-then-not-more-clause-fails g c = record {
  faults =
      let i = c.pieces.invariant in
      record {
        read = omega (arith, i.read_faults);
        write = omega (arith, i.write_faults);
        spool = omega (arith, i.spool_faults);
        put = omega (arith, i.put_faults);
      };
  stops = rw c.delivered.ensures tt;
  clean =
      let i = c.pieces.invariant in
      rw c.delivered.ensures (record {
        read = i.read_faults;
        write = i.write_faults;
        spool = i.spool_faults;
        put = i.put_faults;
      });
}

pub returns-then-not-more-clause-some : goal.returns-then-not-more-clause-some
returns-then-not-more-clause-some g c =
    let i = c.pieces.invariant in
    let more = i.some (now_done _ _ _ _ i.unbroken (sym c.more.ensures ∙ c.if-not-more.true)) in
    let same = i.same_made in
    rw c.delivered.ensures (omega (arith, more, same))

pub returns-then-not-more-clause-few : goal.returns-then-not-more-clause-few
returns-then-not-more-clause-few g c =
    let i = c.pieces.invariant in
    let few = i.few in
    let same = i.same_made in
    let order = i.order in
    rw c.delivered.ensures (omega (arith, few, same, order))

pub returns-then-not-more-clause-counted : goal.returns-then-not-more-clause-counted
returns-then-not-more-clause-counted g c models =
    let i = c.pieces.invariant in
    let b = g.R.BlockRuns.size c.args.cutter.now.runs in
    let all = g.R.BlockRuns.list c.args.cutter.now.runs (g.S.Source.content c.args.source.now) in
    let is : c.pieces.cutter.stage ≡ Done = now_done _ _ _ _ i.unbroken (sym c.more.ensures ∙ c.if-not-more.true) in
    let none = none_left c.args.cutter.now.limit b all c.pieces.cutter.made c.pieces.cutter.start.block
    (rw (i.limit, is) at (i.told models).cuts) in
    let same = i.same_made in
    let order = i.order in
    rw c.delivered.ensures (omega (arith, none, same, order))

pub returns-then-not-more-clause-long : goal.returns-then-not-more-clause-long
returns-then-not-more-clause-long g c =
    let i = c.pieces.invariant in
    let inside : g.R.BlockRuns.within c.args.cutter.now.runs c.pieces.cutter.start =
    rw i.runs at c.pieces.cutter.sound.within in
    let most = (g.met.R.BlockRuns.passed c.args.cutter.now.runs c.pieces.cutter.start inside).1 in
    let long = i.long in
    let same = i.same_made in
    let order = i.order in
    rw c.delivered.ensures (omega (arith, most, long, same, order))

pub returns-then-not-more-clause-work : goal.returns-then-not-more-clause-work
returns-then-not-more-clause-work g c = record {
  calls =
      let i = c.pieces.invariant in
      let calls = i.calls in
      let same = i.same_made in
      let order = i.order in
      rw c.delivered.ensures (omega (arith, calls, same, order));
  turns =
      let i = c.pieces.invariant in
      let words = words_most (g.R.BlockRuns.one c.args.cutter.now.runs)
      (g.R.BlockRuns.count c.args.cutter.now.runs) c.pieces.cutter.start.block c.pieces.cutter.stage
      i.unbroken.stands in
      let turns = i.turns in
      let same = i.same_made in
      let order = i.order in
      let tick = c.tick.ensures.turns in
      rw c.delivered.ensures (omega (arith, turns, words, same, order, tick));
  work =
      let i = c.pieces.invariant in
      record {
        given = i.given;
        spool_given = i.spool_given;
        grown = i.grown;
        taken = i.taken;
        steps = omega (arith, i.steps, c.tick.ensures.steps);
        greatest = omega (arith, i.greatest, c.tick.ensures.greatest);
      };
}

-- ---- the rest where a piece was stopped

pub returns-in-Err-clause-few : goal.returns-in-Err-clause-few
returns-in-Err-clause-few g c =
    let i = c.pieces.invariant in
    let is : c.pieces.cutter.stage ≡ Between =
    still_between _ _ _ _ i.unbroken (sym c.more.ensures ∙ c.if-not-more.false) in
    let left : c.pieces.cutter.made ≤ c.pieces.cutter.start.block = c.pieces.cutter.sound.left (ap has_more is) in
    rw c.next_number-piece.ensures
    (few_more (g.R.BlockRuns.count c.args.cutter.now.runs) c.pieces.cutter.made c.pieces.cutter.start.block left
    (i.unbroken.between is))

pub returns-in-Err-clause-work : goal.returns-in-Err-clause-work
returns-in-Err-clause-work g c = record {
  calls =
      let i = c.pieces.invariant in
      let more = c.deliver_piece.ensures.work.calls in
      let calls = i.calls in
      let next = c.next_number-piece.ensures in
      omega (arith, more, calls, next);
  turns =
      let i = c.pieces.invariant in
      let is : c.pieces.cutter.stage ≡ Between =
      still_between _ _ _ _ i.unbroken (sym c.more.ensures ∙ c.if-not-more.false) in
      let words = words_one (g.R.BlockRuns.one c.args.cutter.now.runs)
      (g.R.BlockRuns.count c.args.cutter.now.runs) c.pieces.cutter.start.block c.pieces.cutter.stage is in
      let more = rw i.runs at c.deliver_piece.ensures.work.turns in
      let turns = i.turns in
      let next = c.next_number-piece.ensures in
      let tick = c.tick.ensures.turns in
      omega (arith, more, turns, words, next, tick);
  work =
      let i = c.pieces.invariant in
      let e = c.deliver_piece.ensures in
      record {
        given = up_on _ _ _ i.given e.work.work.given;
        spool_given = up_on _ _ _ i.spool_given e.work.work.spool_given;
        grown = up_on _ _ _ i.grown e.work.work.grown;
        taken = up_on _ _ _ i.taken e.work.work.taken;
        steps = steps_on _ _ _ _ _ _ _ e.work.work.steps i.steps c.tick.ensures.steps;
        greatest = greatest_on _ _ _ _ e.work.work.greatest i.greatest c.tick.ensures.greatest;
      };
}

-- ---- what a piece asks for

pub deliver_piece-requires-clause-ready : goal.deliver_piece-requires-clause-ready
deliver_piece-requires-clause-ready g c =
    let i = c.pieces.invariant in
    record {
      opened = λ models. rw (i.runs, i.kept models) (c.requires.ready.opened models);
      told = λ models. rw (i.runs, i.kept models) (i.told models);
    }

-- ---- the source

pub returns-then-not-more-clause-source : goal.returns-then-not-more-clause-source
returns-then-not-more-clause-source g c =
    let i = c.pieces.invariant in
    rw c.delivered.ensures (record {
      content = i.kept;
      size = i.long_source;
      frame = i.frame;
      faults = omega (arith, i.read_faults);
      clean = i.read_faults;
    })

pub returns-in-Err-clause-source : goal.returns-in-Err-clause-source
returns-in-Err-clause-source g c =
    let i = c.pieces.invariant in
    let s = c.in-Err.ensures.source in
    record {
      content = λ models. s.content models ∙ i.kept models;
      size = λ models. s.size models
          ∙ i.long_source models;
      frame = s.frame ∙ i.frame;
      faults = omega (arith, i.read_faults, s.faults);
      clean = tt;
    }
