use Rattle.std.proofs.Common.{◌≡◌, ℕ, ◌+◌, ◌≤◌, ◌<◌, ◌^◌, ◌++◌, ◌∷◌, List, length, refl, sym, ap, subst, ◌∙◌, arith}
use Rattle.std.proofs.Common.{length-append}
use Rattle.std.specs.Prelude.{IsTrue}
use Rattle.abt_io.specs.Frame.{ReadFrame, WriteFrame, last_cut}
use Rattle.abt_sparse.specs.Block.{IsBlockSize, cells, over}
use Rattle.abt_sparse.specs.Chunk.{piece}
use Rattle.abt_sparse.specs.Pieces.{given}
use Rattle.abt_sparse.specs.Reading.{outcome}
use Rattle.abt_pieces.specs.Gather.{frame}
use Rattle.abt_pieces.specs.Plan.{FirstPiece}
use Rattle.abt_pieces.proofs.Cutting.{piece_is}
use Rattle.abt_flash.specs.Going.{blocks_at}
use Rattle.abt_pieces.specs.Fault.{CutCause}
use Rattle.abt_pieces.specs.Image.{Appended, IsPlainImage}
use Rattle.abt_flash.proofs.PieceFlash.{Reads, cut_stops, image_reads, piece_reads, given_reads, all_flashed}
use Rattle.abt_flash.proofs.PieceFlash.{only_devices, flash_stops, laid_stops, unsynced_stops, laid_cut, unsynced_cut}
use Rattle.abt_flash.proofs.PieceFlash.{on_flashed, behind_clear, all_read, touched_reads}
use Rattle.abt_flash.proofs.Spooled.{fits_one}
use Rattle.abt_flash.proofs.Ways.{ends_late, ends_none, ends_one, no_part_late, no_part_none, no_part_one}
use Rattle.abt_flash.proofs.Still.{begins_same, fits_same, goes_behind, touches_none}
use Rattle.abt_flash.proofs.piece.deliver_piece.Goals as goal
use Rattle.abt_flash.proofs.piece.deliver_piece.Goals.{After-flash, After-write_piece, In-Err-write_piece}
use Rattle.abt_flash.proofs.piece.deliver_piece.Goals.{In-Ok-write_piece}
use Rattle.abt_flash.proofs.piece.deliver_piece.Given.{Over}
use Rattle.abt_io.proofs.Lent.{reads_none, reads_then, reads_err, reads_ok}

-- ---- the piece that was written

-- its segment
segment : (g : Over) (c : In-Ok-write_piece g) → IsTrue g.S.Source.models
    → FirstPiece (g.R.BlockRuns.size c.args.cutter.now.runs) (g.R.BlockRuns.list c.args.cutter.now.runs
    (g.S.Source.content c.args.source.now)) c.args.cutter.now.limit c.args.cutter.now.start.block
    c.write_piece.new.cutter.start.block
segment g c models =
    let o = c.in-Ok-write_piece.ensures in
    let p = o.made.piece in
    let h = o.laid models in
    rw (p.begins, p.ends) at h.greatest

-- its bytes
bytes : (g : Over) (c : In-Ok-write_piece g) → IsTrue g.S.Source.models
    → g.L.Output.written c.write_piece.new.spool ≡ g.L.Output.written c.args.spool.now
    ++ piece (g.R.BlockRuns.size c.args.cutter.now.runs)
    (frame (g.R.BlockRuns.list c.args.cutter.now.runs (g.S.Source.content c.args.source.now))
    c.args.cutter.now.start.block c.write_piece.new.cutter.start.block)
bytes g c models =
    let b = g.R.BlockRuns.size c.args.cutter.now.runs in
    let l = g.R.BlockRuns.list c.args.cutter.now.runs (g.S.Source.content c.args.source.now) in
    let o = c.in-Ok-write_piece.ensures in
    let p = o.made.piece in
    let h = o.laid models in
    h.written
    ∙ ap (λ (x : List ℕ). x ++ piece b (frame l c.in-Ok-write_piece.field-0.first c.in-Ok-write_piece.field-0.past))
    c.clear.ensures.written
    ∙ ap (λ (s : ℕ). g.L.Output.written c.args.spool.now
    ++ piece b (frame l s c.in-Ok-write_piece.field-0.past)) p.begins
    ∙ ap (λ (e : ℕ). g.L.Output.written c.args.spool.now ++ piece b (frame l c.args.cutter.now.start.block e)) p.ends

-- what it reads as
reads : (g : Over) (c : In-Ok-write_piece g) → IsTrue g.S.Source.models
    → Reads (g.R.BlockRuns.size c.args.cutter.now.runs) (g.R.BlockRuns.count c.args.cutter.now.runs)
    (frame (g.R.BlockRuns.list c.args.cutter.now.runs (g.S.Source.content c.args.source.now))
    c.args.cutter.now.start.block c.write_piece.new.cutter.start.block)
    (piece (g.R.BlockRuns.size c.args.cutter.now.runs)
    (frame (g.R.BlockRuns.list c.args.cutter.now.runs (g.S.Source.content c.args.source.now))
    c.args.cutter.now.start.block c.write_piece.new.cutter.start.block))
reads g c models =
    let b = g.R.BlockRuns.size c.args.cutter.now.runs in
    let l = g.R.BlockRuns.list c.args.cutter.now.runs (g.S.Source.content c.args.source.now) in
    let sized = g.met.R.BlockRuns.sized c.args.cutter.now.runs in
    let long = g.met.R.BlockRuns.long c.args.cutter.now.runs _ (c.requires.ready.opened models) in
    let good = g.met.R.BlockRuns.are_blocks c.args.cutter.now.runs _ (c.requires.ready.opened models) in
    let granted : 64 + b ≤ c.args.cutter.now.limit = c.args.cutter.now.sound.granted in
    let small : c.args.cutter.now.limit < 2 ^ 32 = omega arith in
    let few : length l < 2 ^ 32 = let z : g.R.BlockRuns.count c.args.cutter.now.runs < 2 ^ 32 = omega arith in
    omega (arith, long, z) in
    let some : 0 < b = omega (arith, sized.0) in
    let size : IsBlockSize b = (some, sized.1, omega (arith, granted, small)) in
    subst (λ (n : ℕ). Reads b n (frame l c.args.cutter.now.start.block c.write_piece.new.cutter.start.block)
    (piece b (frame l c.args.cutter.now.start.block c.write_piece.new.cutter.start.block))) long
    (piece_reads c.args.cutter.now.limit b l c.args.cutter.now.start.block c.write_piece.new.cutter.start.block size
    good few small (segment g c models))

-- what the spool gives
comes : (g : Over) (c : In-Ok-write_piece g) → IsTrue g.S.Source.models → IsTrue g.L.Input.models
    → g.L.Input.remaining c.write_piece.new.spool ≡ piece (g.R.BlockRuns.size c.args.cutter.now.runs)
    (frame (g.R.BlockRuns.list c.args.cutter.now.runs (g.S.Source.content c.args.source.now))
    c.args.cutter.now.start.block c.write_piece.new.cutter.start.block)
comes g c models spool =
    let same = sym (g.met.L.Spool.writing c.write_piece.new.spool) ∙ c.write_piece.ensures.writes.frame
    ∙ g.met.L.Spool.writing c.clear.new.spool in
    let gone : g.L.Spool.gone c.write_piece.new.spool ≡ length (g.L.Output.written c.args.spool.now) =
    ap (λ (f : WriteFrame). f.gone) same ∙ c.in-Ok.ensures.gone in
    g.met.L.Spool.held c.write_piece.new.spool spool ∙ behind_clear _ _ _ _ (bytes g c models) gone

-- what it touches
touches : (g : Over) (c : In-Ok-write_piece g) → IsTrue g.S.Source.models → IsTrue g.L.Input.models
    → given (outcome (g.L.Input.remaining c.write_piece.new.spool)) ≡ cells
    (g.R.BlockRuns.size c.args.cutter.now.runs)
    (blocks_at c.args.cutter.now.limit (g.R.BlockRuns.size c.args.cutter.now.runs)
    (g.R.BlockRuns.list c.args.cutter.now.runs (g.S.Source.content c.args.source.now)) c.args.cutter.now.start.block)
touches g c models spool = touched_reads _ _ _ _ _ _ _ _ (comes g c models spool) (reads g c models)
    (segment g c models)

-- ---- the spool after a flash

after_written : (g : Over) (c : After-flash g)
    → g.L.Output.written c.flash.new.input ≡ g.L.Output.written c.write_piece.new.spool
after_written g c = ap (λ (f : ReadFrame). f.written) (sym (g.met.L.Spool.reading c.flash.new.input)
    ∙ c.flash.ensures.frame ∙ g.met.L.Spool.reading c.write_piece.new.spool)

after_cuts : (g : Over) (c : After-flash g)
    → g.L.Spool.cuts c.flash.new.input ≡ length (g.L.Output.written c.args.spool.now) ∷ g.L.Spool.cuts c.args.spool.now
after_cuts g c =
    ap (λ (f : ReadFrame). f.cuts) (sym (g.met.L.Spool.reading c.flash.new.input) ∙ c.flash.ensures.frame
    ∙ g.met.L.Spool.reading c.write_piece.new.spool)
    ∙ ap (λ (f : WriteFrame). f.cuts) (sym (g.met.L.Spool.writing c.write_piece.new.spool)
    ∙ c.write_piece.ensures.writes.frame ∙ g.met.L.Spool.writing c.clear.new.spool)
    ∙ c.in-Ok.ensures.cut

-- the spool's clears, once it was cleared and written to
wrote_cuts : (g : Over) (c : After-write_piece g)
    → g.L.Spool.cuts c.write_piece.new.spool ≡ length (g.L.Output.written c.args.spool.now)
    ∷ g.L.Spool.cuts c.args.spool.now
wrote_cuts g c = ap (λ (f : WriteFrame). f.cuts) (sym (g.met.L.Spool.writing c.write_piece.new.spool)
    ∙ c.write_piece.ensures.writes.frame ∙ g.met.L.Spool.writing c.clear.new.spool) ∙ c.in-Ok.ensures.cut

-- ---- the same of every source

image : (g : Over) (c : In-Ok-write_piece g)
    → Appended (IsPlainImage (g.R.BlockRuns.size c.args.cutter.now.runs) (g.R.BlockRuns.count c.args.cutter.now.runs))
    (g.L.Output.written c.clear.new.spool) (g.L.Output.written c.write_piece.new.spool)
image g c = c.in-Ok-write_piece.ensures.made.image

gives : (g : Over) (c : In-Ok-write_piece g) → IsTrue g.L.Input.models
    → g.L.Input.remaining c.write_piece.new.spool ≡ (image g c).wrote
gives g c spool =
    let same = sym (g.met.L.Spool.writing c.write_piece.new.spool) ∙ c.write_piece.ensures.writes.frame
    ∙ g.met.L.Spool.writing c.clear.new.spool in
    let gone : g.L.Spool.gone c.write_piece.new.spool ≡ length (g.L.Output.written c.clear.new.spool) =
    ap (λ (f : WriteFrame). f.gone) same ∙ c.in-Ok.ensures.gone ∙ ap length (sym c.clear.ensures.written) in
    g.met.L.Spool.held c.write_piece.new.spool spool ∙ behind_clear _ _ _ _ (image g c).behind gone

cut_cause : (g : Over) (c : In-Err-write_piece g)
    → CutCause c.in-Err-write_piece.fault g.S.Source.models (g.S.Source.read_faults c.args.source.now)
    (g.S.Source.read_faults c.write_piece.new.source) (g.L.Output.write_faults c.clear.new.spool)
    (g.L.Output.write_faults c.write_piece.new.spool)
cut_cause g c = c.in-Err-write_piece.ensures.cause

-- ---- where the spool was not cleared

pub returns-in-Err-clause-greatest_end : goal.returns-in-Err-clause-greatest_end
returns-in-Err-clause-greatest_end g c models = rw c.in-Err.ensures.names tt

pub returns-in-Err-clause-partition : goal.returns-in-Err-clause-partition
returns-in-Err-clause-partition g c = record {
  size = refl;
  unread = (refl, refl);
  laid = λ models spool partition. rw c.in-Err.ensures.names tt;
  touches = λ models spool partition. touches_none _ _ _;
  settled = λ models. tt;
  synced = omega arith;
  unsynced = rw c.in-Err.ensures.names (omega arith);
  blocks = λ models spool. tt;
}

pub returns-in-Err-clause-fails : goal.returns-in-Err-clause-fails
returns-in-Err-clause-fails g c = record {
  faults =
      record {
        read = omega arith;
        write = omega (arith, c.clear.ensures.write_faults, c.clear.ensures.clear_faults);
        spool = omega (arith, c.clear.ensures.read_faults);
        put = omega arith;
      };
  cause =
      let wrote = c.clear.ensures.write_faults in
      let more = c.in-Err.ensures.cause in
      rw c.in-Err.ensures.names (omega (arith, wrote, more), refl);
  clean = tt;
}

-- ---- where the piece was not written

pub returns-in-Err-write_piece-clause-spool : goal.returns-in-Err-write_piece-clause-spool
returns-in-Err-write_piece-clause-spool g c = record {
  capacity =
      let writing = sym (g.met.L.Spool.writing c.write_piece.new.spool) ∙ c.write_piece.ensures.writes.frame
      ∙ g.met.L.Spool.writing c.clear.new.spool in
      ap (λ (f : WriteFrame). f.capacity) writing ∙ c.clear.ensures.size;
  fits =
      let cuts = ap (λ (f : WriteFrame). f.cuts) (sym (g.met.L.Spool.writing c.write_piece.new.spool)
      ∙ c.write_piece.ensures.writes.frame ∙ g.met.L.Spool.writing c.clear.new.spool) ∙ c.in-Ok.ensures.cut in
      let same = ap length c.clear.ensures.written in
      fits_one _ _ _ _ _ cuts (omega (arith, same, c.write_piece.ensures.writes.least))
      (omega (arith, same, c.write_piece.ensures.within));
  cut = tt;
  written = λ models. tt;
  begins = λ forward models. rw c.clear.ensures.written at (c.write_piece.ensures.begins forward models);
  no_part = λ late models.
      let k = (goal.at.returns-in-Err-write_piece-clause-spool g c).After-write_piece in
      let h = rw c.clear.ensures.written at (c.in-Err-write_piece.ensures.late late) in
      no_part_late _ _ _ _ _ (wrote_cuts g k) h.before h.unfinished;
  ends = λ late.
      let k = (goal.at.returns-in-Err-write_piece-clause-spool g c).After-write_piece in
      let h = rw c.clear.ensures.written at (c.in-Err-write_piece.ensures.late late) in
      ends_late _ _ _ _ _ _ (wrote_cuts g k) h.unfinished;
  back = λ models spool. tt;
}

pub returns-in-Err-write_piece-clause-partition : goal.returns-in-Err-write_piece-clause-partition
returns-in-Err-write_piece-clause-partition g c = record {
  size = refl;
  unread = (refl, refl);
  laid = λ models spool partition. rw (c.not_written.ensures) (laid_cut c.in-Err-write_piece.fault _);
  touches = λ models spool partition. touches_none _ _ _;
  settled = λ models. tt;
  synced = omega arith;
  unsynced =
      let none = unsynced_cut c.in-Err-write_piece.fault in
      rw (c.not_written.ensures) (omega (arith, none));
  blocks = λ models spool. tt;
}

pub returns-in-Err-write_piece-clause-greatest_end : goal.returns-in-Err-write_piece-clause-greatest_end
returns-in-Err-write_piece-clause-greatest_end g c models =
    rw (c.not_written.ensures) (laid_cut c.in-Err-write_piece.fault _)

-- ---- where it was flashed

pub returns-in-Ok-flash-clause-spool : goal.returns-in-Ok-flash-clause-spool
returns-in-Ok-flash-clause-spool g c = record {
  capacity =
      let writing = sym (g.met.L.Spool.writing c.write_piece.new.spool) ∙ c.write_piece.ensures.writes.frame
      ∙ g.met.L.Spool.writing c.clear.new.spool in
      let reading = sym (g.met.L.Spool.reading c.flash.new.input) ∙ c.flash.ensures.frame
      ∙ g.met.L.Spool.reading c.write_piece.new.spool in
      ap (λ (f : ReadFrame). f.capacity) reading ∙ ap (λ (f : WriteFrame). f.capacity) writing ∙ c.clear.ensures.size;
  fits =
      let k = (goal.at.returns-in-Ok-flash-clause-spool g c).After-flash in
      let same = ap length c.clear.ensures.written in
      let long = ap length (after_written g k) in
      fits_one _ _ _ _ _ (after_cuts g k) (omega (arith, same, long, c.write_piece.ensures.writes.least))
      (omega (arith, same, long, c.write_piece.ensures.within));
  cut = after_cuts g ((goal.at.returns-in-Ok-flash-clause-spool g c).After-flash);
  written = λ models.
      let k = (goal.at.returns-in-Ok-flash-clause-spool g c).After-flash in
      let s = (goal.at.returns-in-Ok-flash-clause-spool g c).In-Ok-write_piece in
      after_written g k ∙ bytes g s models ∙ ap (λ (x : List ℕ). g.L.Output.written c.args.spool.now
      ++ x) (piece_is _ _ _ _ _ (segment g s models));
  begins = λ forward models.
      let k = (goal.at.returns-in-Ok-flash-clause-spool g c).After-flash in
      rw (← after_written g k) at (rw c.clear.ensures.written at (c.write_piece.ensures.begins forward models));
  no_part = λ late models.
      let k = (goal.at.returns-in-Ok-flash-clause-spool g c).After-flash in
      let s = (goal.at.returns-in-Ok-flash-clause-spool g c).In-Ok-write_piece in
      no_part_one _ _ (g.L.Spool.cuts c.flash.new.input) _ (after_written g k ∙ bytes g s models
      ∙ ap (λ (x : List ℕ). g.L.Output.written c.args.spool.now ++ x) (piece_is _ _ _ _ _ (segment g s models)));
  ends = λ late.
      let k = (goal.at.returns-in-Ok-flash-clause-spool g c).After-flash in
      let s = (goal.at.returns-in-Ok-flash-clause-spool g c).In-Ok-write_piece in
      let h : Appended (IsPlainImage (g.R.BlockRuns.size c.args.cutter.now.runs)
      (g.R.BlockRuns.count c.args.cutter.now.runs)) (g.L.Output.written c.args.spool.now)
      (g.L.Output.written c.flash.new.input) = rw (after_written g k) (rw c.clear.ensures.written at (image g s)) in
      ends_one _ _ _ _ _ _ _ (after_cuts g k) h;
  back = λ models spool.
      let k = (goal.at.returns-in-Ok-flash-clause-spool g c).After-flash in
      let s = (goal.at.returns-in-Ok-flash-clause-spool g c).In-Ok-write_piece in
      let none = (all_flashed _ _ _ _ _ _ _ _ _ (reads g s models)
      (rw (comes g s models spool) at (c.in-Ok-flash.ensures.flashes spool))).none in
      let read = all_read _ _ _ (c.flash.ensures.read.present spool) (c.flash.ensures.read.rest spool) none in
      let long = ap length (comes g s models spool) in
      let wrote = ap length (bytes g s models) in
      let sum = length-append (g.L.Output.written c.args.spool.now) (piece (g.R.BlockRuns.size c.args.cutter.now.runs)
      (frame (g.R.BlockRuns.list c.args.cutter.now.runs (g.S.Source.content c.args.source.now))
      c.args.cutter.now.start.block c.write_piece.new.cutter.start.block)) in
      let same = ap length (after_written g k) in
      let gives : g.L.Input.given c.write_piece.new.spool ≡ g.L.Input.given c.clear.new.spool =
      ap (λ (f : WriteFrame). f.given) (sym (g.met.L.Spool.writing c.write_piece.new.spool)
      ∙ c.write_piece.ensures.writes.frame ∙ g.met.L.Spool.writing c.clear.new.spool) in
      omega (arith, read, long, wrote, sum, same, gives, c.clear.ensures.given, c.flash.ensures.grows.given);
}

pub returns-in-Ok-flash-clause-partition : goal.returns-in-Ok-flash-clause-partition
returns-in-Ok-flash-clause-partition g c = record {
  size = c.flash.ensures.unread.size;
  unread = (c.flash.ensures.unread.reads, c.flash.ensures.unread.given);
  laid = λ models spool partition.
      let s = (goal.at.returns-in-Ok-flash-clause-partition g c).In-Ok-write_piece in
      c.in-Ok-flash.ensures.holds spool partition
      ∙ ap (λ (x : List ℕ). over (g.P.Source.content c.args.partition.now) (given (outcome x))) (comes g s models spool)
      ∙ ap (over (g.P.Source.content c.args.partition.now)) (given_reads _ _ _ _ (reads g s models));
  touches = λ models spool partition.
      rw (touches g ((goal.at.returns-in-Ok-flash-clause-partition g c).In-Ok-write_piece) models spool) at
      (c.flash.ensures.touches spool partition);
  settled = c.in-Ok-flash.ensures.syncs.settled;
  synced = c.in-Ok-flash.ensures.syncs.synced;
  unsynced = c.in-Ok-flash.ensures.syncs.refused;
  blocks = λ models spool.
      let s = (goal.at.returns-in-Ok-flash-clause-partition g c).In-Ok-write_piece in
      (all_flashed _ _ _ _ _ _ _ _ _ (reads g s models)
      (rw (comes g s models spool) at (c.in-Ok-flash.ensures.flashes spool))).taken;
}

-- ---- where flashing it failed

pub returns-in-Err-flash-clause-spool : goal.returns-in-Err-flash-clause-spool
returns-in-Err-flash-clause-spool g c = record {
  capacity =
      let writing = sym (g.met.L.Spool.writing c.write_piece.new.spool) ∙ c.write_piece.ensures.writes.frame
      ∙ g.met.L.Spool.writing c.clear.new.spool in
      let reading = sym (g.met.L.Spool.reading c.flash.new.input) ∙ c.flash.ensures.frame
      ∙ g.met.L.Spool.reading c.write_piece.new.spool in
      ap (λ (f : ReadFrame). f.capacity) reading ∙ ap (λ (f : WriteFrame). f.capacity) writing ∙ c.clear.ensures.size;
  fits =
      let k = (goal.at.returns-in-Err-flash-clause-spool g c).After-flash in
      let same = ap length c.clear.ensures.written in
      let long = ap length (after_written g k) in
      fits_one _ _ _ _ _ (after_cuts g k) (omega (arith, same, long, c.write_piece.ensures.writes.least))
      (omega (arith, same, long, c.write_piece.ensures.within));
  cut = rw c.not_flashed.ensures tt;
  written = λ models. rw c.not_flashed.ensures tt;
  begins = λ forward models.
      let k = (goal.at.returns-in-Err-flash-clause-spool g c).After-flash in
      rw (← after_written g k) at (rw c.clear.ensures.written at (c.write_piece.ensures.begins forward models));
  no_part = λ late models.
      let k = (goal.at.returns-in-Err-flash-clause-spool g c).After-flash in
      let s = (goal.at.returns-in-Err-flash-clause-spool g c).In-Ok-write_piece in
      no_part_one _ _ (g.L.Spool.cuts c.flash.new.input) _ (after_written g k ∙ bytes g s models
      ∙ ap (λ (x : List ℕ). g.L.Output.written c.args.spool.now ++ x) (piece_is _ _ _ _ _ (segment g s models)));
  ends = λ late.
      let k = (goal.at.returns-in-Err-flash-clause-spool g c).After-flash in
      let s = (goal.at.returns-in-Err-flash-clause-spool g c).In-Ok-write_piece in
      let h : Appended (IsPlainImage (g.R.BlockRuns.size c.args.cutter.now.runs)
      (g.R.BlockRuns.count c.args.cutter.now.runs)) (g.L.Output.written c.args.spool.now)
      (g.L.Output.written c.flash.new.input) = rw (after_written g k) (rw c.clear.ensures.written at (image g s)) in
      ends_one _ _ _ _ _ _ _ (after_cuts g k) h;
  back = λ models spool. rw c.not_flashed.ensures tt;
}

pub returns-in-Err-flash-clause-partition : goal.returns-in-Err-flash-clause-partition
returns-in-Err-flash-clause-partition g c = record {
  size = c.flash.ensures.unread.size;
  unread = (c.flash.ensures.unread.reads, c.flash.ensures.unread.given);
  laid = λ models spool partition.
      let s = (goal.at.returns-in-Err-flash-clause-partition g c).In-Ok-write_piece in
      rw (c.not_flashed.ensures)
      (laid_stops c.in-Err-flash.fault _ _ _ _ _ (c.in-Err-flash.ensures.holds spool partition)
      (ap (λ (x : List ℕ). given (outcome x)) (comes g s models spool) ∙ given_reads _ _ _ _ (reads g s models)));
  touches = λ models spool partition.
      rw (touches g ((goal.at.returns-in-Err-flash-clause-partition g c).In-Ok-write_piece) models spool) at
      (c.flash.ensures.touches spool partition);
  settled = λ models. rw c.not_flashed.ensures tt;
  synced = rw c.not_flashed.ensures c.in-Err-flash.ensures.syncs.synced;
  unsynced =
      let same = unsynced_stops c.in-Err-flash.fault _ _ _ _ c.in-Err-flash.ensures.cause in
      let sum = c.in-Err-flash.ensures.syncs.refused in
      rw (c.not_flashed.ensures) (omega (arith, same, sum));
  blocks = λ models spool. rw c.not_flashed.ensures tt;
}

pub returns-in-Err-flash-clause-greatest_end : goal.returns-in-Err-flash-clause-greatest_end
returns-in-Err-flash-clause-greatest_end g c models =
    rw (c.not_flashed.ensures)
    (on_flashed _ _ (segment g ((goal.at.returns-in-Err-flash-clause-greatest_end g c).In-Ok-write_piece) models))

pub returns-in-Err-flash-clause-fails : goal.returns-in-Err-flash-clause-fails
returns-in-Err-flash-clause-fails g c = record {
  faults =
      record {
        read = c.write_piece.ensures.source.faults;
        write =
            let writing = sym (g.met.L.Spool.writing c.write_piece.new.spool) ∙ c.write_piece.ensures.writes.frame
            ∙ g.met.L.Spool.writing c.clear.new.spool in
            let reading = sym (g.met.L.Spool.reading c.flash.new.input) ∙ c.flash.ensures.frame
            ∙ g.met.L.Spool.reading c.write_piece.new.spool in
            let cleared = ap (λ (f : WriteFrame). f.clear_faults) writing in
            let wrote = ap (λ (f : ReadFrame). f.write_faults) reading in
            let clears = ap (λ (f : ReadFrame). f.clear_faults) reading in
            omega (
              arith,
              cleared,
              wrote,
              clears,
              c.write_piece.ensures.writes.faults,
              c.clear.ensures.write_faults,
              c.clear.ensures.clear_faults,
            );
        spool =
            let writing = sym (g.met.L.Spool.writing c.write_piece.new.spool) ∙ c.write_piece.ensures.writes.frame
            ∙ g.met.L.Spool.writing c.clear.new.spool in
            let failed = ap (λ (f : WriteFrame). f.read_faults) writing in
            omega (arith, failed, c.clear.ensures.read_faults, c.flash.ensures.grows.read_faults);
        put = c.flash.ensures.grows.put_faults;
      };
  cause =
      let s = (goal.at.returns-in-Err-flash-clause-fails g c).In-Ok-write_piece in
      let same : g.L.Input.read_faults c.write_piece.new.spool ≡ g.L.Input.read_faults c.clear.new.spool =
      ap (λ (f : WriteFrame). f.read_faults) (sym (g.met.L.Spool.writing c.write_piece.new.spool)
      ∙ c.write_piece.ensures.writes.frame ∙ g.met.L.Spool.writing c.clear.new.spool) in
      rw (c.not_flashed.ensures)
      (flash_stops _ _ _ _ _ _ (omega (arith, same, c.clear.ensures.read_faults)) c.in-Err-flash.ensures.cause
      (λ spool. only_devices _ _ _ _ _ _ _ _ _ (image_reads _ _ _ (image g s).is) c.requires.room
      (rw (gives g s spool) at (c.in-Err-flash.ensures.flashes spool))));
  clean = rw c.not_flashed.ensures tt;
}

-- ---- who failed

pub returns-in-Ok-flash-clause-fails : goal.returns-in-Ok-flash-clause-fails
returns-in-Ok-flash-clause-fails g c = record {
  faults =
      record {
        read = c.write_piece.ensures.source.faults;
        write =
            let writing = sym (g.met.L.Spool.writing c.write_piece.new.spool) ∙ c.write_piece.ensures.writes.frame
            ∙ g.met.L.Spool.writing c.clear.new.spool in
            let reading = sym (g.met.L.Spool.reading c.flash.new.input) ∙ c.flash.ensures.frame
            ∙ g.met.L.Spool.reading c.write_piece.new.spool in
            let cleared = ap (λ (f : WriteFrame). f.clear_faults) writing in
            let wrote = ap (λ (f : ReadFrame). f.write_faults) reading in
            let clears = ap (λ (f : ReadFrame). f.clear_faults) reading in
            omega (
              arith,
              cleared,
              wrote,
              clears,
              c.write_piece.ensures.writes.faults,
              c.clear.ensures.write_faults,
              c.clear.ensures.clear_faults,
            );
        spool =
            let writing = sym (g.met.L.Spool.writing c.write_piece.new.spool) ∙ c.write_piece.ensures.writes.frame
            ∙ g.met.L.Spool.writing c.clear.new.spool in
            let failed = ap (λ (f : WriteFrame). f.read_faults) writing in
            omega (arith, failed, c.clear.ensures.read_faults, c.flash.ensures.grows.read_faults);
        put = c.flash.ensures.grows.put_faults;
      };
  cause = tt;
  clean =
      let o = c.in-Ok-write_piece.ensures in
      let f = c.in-Ok-flash.ensures.cause in
      let writing = sym (g.met.L.Spool.writing c.write_piece.new.spool) ∙ c.write_piece.ensures.writes.frame
      ∙ g.met.L.Spool.writing c.clear.new.spool in
      let reading = sym (g.met.L.Spool.reading c.flash.new.input) ∙ c.flash.ensures.frame
      ∙ g.met.L.Spool.reading c.write_piece.new.spool in
      let wrote = ap (λ (q : ReadFrame). q.write_faults) reading ∙ o.writes.clean ∙ c.clear.ensures.write_faults in
      let cleared = ap (λ (q : ReadFrame). q.clear_faults) reading ∙ ap (λ (q : WriteFrame). q.clear_faults) writing
      ∙ c.in-Ok.ensures.clean in
      record {
        read = o.source.clean;
        write = omega (arith, wrote, cleared);
        spool = f.0 ∙ ap (λ (q : WriteFrame). q.read_faults) writing ∙ c.clear.ensures.read_faults;
        put = f.1;
      };
}

pub returns-in-Err-write_piece-clause-fails : goal.returns-in-Err-write_piece-clause-fails
returns-in-Err-write_piece-clause-fails g c = record {
  faults =
      record {
        read = c.write_piece.ensures.source.faults;
        write =
            let writing = sym (g.met.L.Spool.writing c.write_piece.new.spool) ∙ c.write_piece.ensures.writes.frame
            ∙ g.met.L.Spool.writing c.clear.new.spool in
            let cleared = ap (λ (f : WriteFrame). f.clear_faults) writing in
            omega (
              arith,
              cleared,
              c.write_piece.ensures.writes.faults,
              c.clear.ensures.write_faults,
              c.clear.ensures.clear_faults,
            );
        spool =
            let writing = sym (g.met.L.Spool.writing c.write_piece.new.spool) ∙ c.write_piece.ensures.writes.frame
            ∙ g.met.L.Spool.writing c.clear.new.spool in
            let failed = ap (λ (f : WriteFrame). f.read_faults) writing in
            omega (arith, failed, c.clear.ensures.read_faults);
        put = omega arith;
      };
  cause =
      let writing = sym (g.met.L.Spool.writing c.write_piece.new.spool) ∙ c.write_piece.ensures.writes.frame
      ∙ g.met.L.Spool.writing c.clear.new.spool in
      let cleared = ap (λ (q : WriteFrame). q.clear_faults) writing in
      let cuts = ap (λ (q : WriteFrame). q.cuts) writing ∙ c.in-Ok.ensures.cut in
      let room = ap (λ (q : WriteFrame). q.capacity) writing ∙ c.clear.ensures.size in
      let long = ap length c.clear.ensures.written in
      rw (c.not_written.ensures) (cut_stops c.in-Err-write_piece.fault _ _ _ _ _ _
      (cut_cause g ((goal.at.returns-in-Err-write_piece-clause-fails g c).In-Err-write_piece))
      (λ more. omega (arith, more, cleared, c.clear.ensures.write_faults, c.clear.ensures.clear_faults))
      (λ is.
      let h = c.in-Err-write_piece.ensures.full (rw is refl) in
      let filled = g.met.L.Spool.filled c.write_piece.new.spool h.0 in
      let last : last_cut (g.L.Spool.cuts c.write_piece.new.spool) ≡ length (g.L.Output.written c.args.spool.now) =
      ap last_cut cuts in
      omega (arith, filled, last, h.1, room, long, c.requires.capacity)));
  clean = tt;
}

-- ---- the spool's numbers, by what a write and what a read leave

pub returns-in-Err-write_piece-clause-work : goal.returns-in-Err-write_piece-clause-work
returns-in-Err-write_piece-clause-work g c = record {
  calls =
      let writing = sym (g.met.L.Spool.writing c.write_piece.new.spool) ∙ c.write_piece.ensures.writes.frame
      ∙ g.met.L.Spool.writing c.clear.new.spool in
      let gives = ap (λ (f : WriteFrame). f.given) writing in
      let reads = ap (λ (f : WriteFrame). f.reads) writing in
      let clears = ap (λ (f : WriteFrame). f.clears) writing in
      let long = ap length c.clear.ensures.written in
      omega (
        arith,
        gives,
        reads,
        clears,
        long,
        c.write_piece.ensures.costs.calls,
        c.write_piece.ensures.costs.given,
        c.write_piece.ensures.writes.least,
        c.clear.ensures.given,
        c.clear.ensures.reads,
        c.clear.ensures.writes,
        c.clear.ensures.calls,
      );
  turns =
      let writing = sym (g.met.L.Spool.writing c.write_piece.new.spool) ∙ c.write_piece.ensures.writes.frame
      ∙ g.met.L.Spool.writing c.clear.new.spool in
      let gives = ap (λ (f : WriteFrame). f.given) writing in
      let long = ap length c.clear.ensures.written in
      omega (
        arith,
        gives,
        long,
        c.write_piece.ensures.costs.turns,
        c.write_piece.ensures.costs.given,
        c.write_piece.ensures.writes.least,
        c.clear.ensures.given,
      );
  words_most = tt;
  work =
      record {
        given = c.write_piece.ensures.costs.given;
        spool_given =
            let writing = sym (g.met.L.Spool.writing c.write_piece.new.spool) ∙ c.write_piece.ensures.writes.frame
            ∙ g.met.L.Spool.writing c.clear.new.spool in
            let gives = ap (λ (f : WriteFrame). f.given) writing in
            omega (arith, gives, c.clear.ensures.given);
        grown =
            let long = ap length c.clear.ensures.written in
            omega (arith, long, c.write_piece.ensures.writes.least);
        taken = omega arith;
        steps =
            let writing = sym (g.met.L.Spool.writing c.write_piece.new.spool) ∙ c.write_piece.ensures.writes.frame
            ∙ g.met.L.Spool.writing c.clear.new.spool in
            let gives = ap (λ (f : WriteFrame). f.given) writing in
            omega (
              arith,
              gives,
              c.write_piece.ensures.costs.steps,
              c.write_piece.ensures.costs.given,
              c.clear.ensures.given,
            );
        greatest = omega (arith, c.write_piece.ensures.costs.greatest);
      };
}

pub returns-in-Ok-flash-clause-work : goal.returns-in-Ok-flash-clause-work
returns-in-Ok-flash-clause-work g c = record {
  calls =
      let writing = sym (g.met.L.Spool.writing c.write_piece.new.spool) ∙ c.write_piece.ensures.writes.frame
      ∙ g.met.L.Spool.writing c.clear.new.spool in
      let reading = sym (g.met.L.Spool.reading c.flash.new.input) ∙ c.flash.ensures.frame
      ∙ g.met.L.Spool.reading c.write_piece.new.spool in
      let gives = ap (λ (f : WriteFrame). f.given) writing in
      let reads = ap (λ (f : WriteFrame). f.reads) writing in
      let clears = ap (λ (f : WriteFrame). f.clears) writing in
      let wrote = ap (λ (f : ReadFrame). f.writes) reading in
      let cleared = ap (λ (f : ReadFrame). f.clears) reading in
      let same = ap (λ (f : ReadFrame). length f.written) reading in
      let long = ap length c.clear.ensures.written in
      omega (
        arith,
        gives,
        reads,
        clears,
        wrote,
        cleared,
        same,
        long,
        c.write_piece.ensures.costs.calls,
        c.write_piece.ensures.costs.given,
        c.write_piece.ensures.writes.least,
        c.clear.ensures.given,
        c.clear.ensures.reads,
        c.clear.ensures.writes,
        c.clear.ensures.calls,
        c.flash.ensures.costs.calls,
        c.flash.ensures.grows.given,
        c.flash.ensures.grows.taken,
      );
  turns =
      let writing = sym (g.met.L.Spool.writing c.write_piece.new.spool) ∙ c.write_piece.ensures.writes.frame
      ∙ g.met.L.Spool.writing c.clear.new.spool in
      let reading = sym (g.met.L.Spool.reading c.flash.new.input) ∙ c.flash.ensures.frame
      ∙ g.met.L.Spool.reading c.write_piece.new.spool in
      let gives = ap (λ (f : WriteFrame). f.given) writing in
      let same = ap (λ (f : ReadFrame). length f.written) reading in
      let long = ap length c.clear.ensures.written in
      omega (
        arith,
        gives,
        same,
        long,
        c.write_piece.ensures.costs.turns,
        c.write_piece.ensures.costs.given,
        c.write_piece.ensures.writes.least,
        c.clear.ensures.given,
        c.flash.ensures.costs.turns,
        c.flash.ensures.grows.given,
        c.flash.ensures.grows.taken,
      );
  words_most =
      let writing = sym (g.met.L.Spool.writing c.write_piece.new.spool) ∙ c.write_piece.ensures.writes.frame
      ∙ g.met.L.Spool.writing c.clear.new.spool in
      let reading = sym (g.met.L.Spool.reading c.flash.new.input) ∙ c.flash.ensures.frame
      ∙ g.met.L.Spool.reading c.write_piece.new.spool in
      let gives = ap (λ (f : WriteFrame). f.given) writing in
      let same = ap (λ (f : ReadFrame). length f.written) reading in
      let long = ap length c.clear.ensures.written in
      let words = c.in-Ok-write_piece.ensures.made.words in
      let ends = c.in-Ok-write_piece.ensures.made.piece.ends in
      let few = rw ends at words in
      omega (
        arith,
        gives,
        same,
        long,
        few,
        c.write_piece.ensures.costs.given,
        c.write_piece.ensures.writes.least,
        c.clear.ensures.given,
        c.flash.ensures.costs.turns,
        c.flash.ensures.grows.given,
        c.flash.ensures.grows.taken,
      );
  work =
      record {
        given = c.write_piece.ensures.costs.given;
        spool_given =
            let writing = sym (g.met.L.Spool.writing c.write_piece.new.spool) ∙ c.write_piece.ensures.writes.frame
            ∙ g.met.L.Spool.writing c.clear.new.spool in
            let gives = ap (λ (f : WriteFrame). f.given) writing in
            omega (arith, gives, c.clear.ensures.given, c.flash.ensures.grows.given);
        grown =
            let writing = sym (g.met.L.Spool.writing c.write_piece.new.spool) ∙ c.write_piece.ensures.writes.frame
            ∙ g.met.L.Spool.writing c.clear.new.spool in
            let reading = sym (g.met.L.Spool.reading c.flash.new.input) ∙ c.flash.ensures.frame
            ∙ g.met.L.Spool.reading c.write_piece.new.spool in
            let same = ap (λ (f : ReadFrame). length f.written) reading in
            let long = ap length c.clear.ensures.written in
            omega (arith, same, long, c.write_piece.ensures.writes.least);
        taken = c.flash.ensures.grows.taken;
        steps =
            let writing = sym (g.met.L.Spool.writing c.write_piece.new.spool) ∙ c.write_piece.ensures.writes.frame
            ∙ g.met.L.Spool.writing c.clear.new.spool in
            let gives = ap (λ (f : WriteFrame). f.given) writing in
            omega (
              arith,
              gives,
              c.write_piece.ensures.costs.steps,
              c.write_piece.ensures.costs.given,
              c.clear.ensures.given,
              c.flash.ensures.costs.steps,
              c.flash.ensures.grows.given,
            );
        greatest = omega (arith, c.write_piece.ensures.costs.greatest, c.flash.ensures.costs.greatest);
      };
}

pub returns-in-Err-flash-clause-work : goal.returns-in-Err-flash-clause-work
returns-in-Err-flash-clause-work g c = record {
  calls =
      let writing = sym (g.met.L.Spool.writing c.write_piece.new.spool) ∙ c.write_piece.ensures.writes.frame
      ∙ g.met.L.Spool.writing c.clear.new.spool in
      let reading = sym (g.met.L.Spool.reading c.flash.new.input) ∙ c.flash.ensures.frame
      ∙ g.met.L.Spool.reading c.write_piece.new.spool in
      let gives = ap (λ (f : WriteFrame). f.given) writing in
      let reads = ap (λ (f : WriteFrame). f.reads) writing in
      let clears = ap (λ (f : WriteFrame). f.clears) writing in
      let wrote = ap (λ (f : ReadFrame). f.writes) reading in
      let cleared = ap (λ (f : ReadFrame). f.clears) reading in
      let same = ap (λ (f : ReadFrame). length f.written) reading in
      let long = ap length c.clear.ensures.written in
      omega (
        arith,
        gives,
        reads,
        clears,
        wrote,
        cleared,
        same,
        long,
        c.write_piece.ensures.costs.calls,
        c.write_piece.ensures.costs.given,
        c.write_piece.ensures.writes.least,
        c.clear.ensures.given,
        c.clear.ensures.reads,
        c.clear.ensures.writes,
        c.clear.ensures.calls,
        c.flash.ensures.costs.calls,
        c.flash.ensures.grows.given,
        c.flash.ensures.grows.taken,
      );
  turns =
      let writing = sym (g.met.L.Spool.writing c.write_piece.new.spool) ∙ c.write_piece.ensures.writes.frame
      ∙ g.met.L.Spool.writing c.clear.new.spool in
      let reading = sym (g.met.L.Spool.reading c.flash.new.input) ∙ c.flash.ensures.frame
      ∙ g.met.L.Spool.reading c.write_piece.new.spool in
      let gives = ap (λ (f : WriteFrame). f.given) writing in
      let same = ap (λ (f : ReadFrame). length f.written) reading in
      let long = ap length c.clear.ensures.written in
      omega (
        arith,
        gives,
        same,
        long,
        c.write_piece.ensures.costs.turns,
        c.write_piece.ensures.costs.given,
        c.write_piece.ensures.writes.least,
        c.clear.ensures.given,
        c.flash.ensures.costs.turns,
        c.flash.ensures.grows.given,
        c.flash.ensures.grows.taken,
      );
  words_most = rw c.not_flashed.ensures tt;
  work =
      record {
        given = c.write_piece.ensures.costs.given;
        spool_given =
            let writing = sym (g.met.L.Spool.writing c.write_piece.new.spool) ∙ c.write_piece.ensures.writes.frame
            ∙ g.met.L.Spool.writing c.clear.new.spool in
            let gives = ap (λ (f : WriteFrame). f.given) writing in
            omega (arith, gives, c.clear.ensures.given, c.flash.ensures.grows.given);
        grown =
            let writing = sym (g.met.L.Spool.writing c.write_piece.new.spool) ∙ c.write_piece.ensures.writes.frame
            ∙ g.met.L.Spool.writing c.clear.new.spool in
            let reading = sym (g.met.L.Spool.reading c.flash.new.input) ∙ c.flash.ensures.frame
            ∙ g.met.L.Spool.reading c.write_piece.new.spool in
            let same = ap (λ (f : ReadFrame). length f.written) reading in
            let long = ap length c.clear.ensures.written in
            omega (arith, same, long, c.write_piece.ensures.writes.least);
        taken = c.flash.ensures.grows.taken;
        steps =
            let writing = sym (g.met.L.Spool.writing c.write_piece.new.spool) ∙ c.write_piece.ensures.writes.frame
            ∙ g.met.L.Spool.writing c.clear.new.spool in
            let gives = ap (λ (f : WriteFrame). f.given) writing in
            omega (
              arith,
              gives,
              c.write_piece.ensures.costs.steps,
              c.write_piece.ensures.costs.given,
              c.clear.ensures.given,
              c.flash.ensures.costs.steps,
              c.flash.ensures.grows.given,
            );
        greatest = omega (arith, c.write_piece.ensures.costs.greatest, c.flash.ensures.costs.greatest);
      };
}

pub returns-in-Ok-flash-clause-takes : goal.returns-in-Ok-flash-clause-takes
returns-in-Ok-flash-clause-takes g c = record {
  takes =
      let k = (goal.at.returns-in-Ok-flash-clause-takes g c).After-flash in
      let same = ap length (after_written g k) in
      let long = ap length c.clear.ensures.written in
      let takes = c.in-Ok-write_piece.ensures.made.takes in
      omega (arith, same, long, takes);
  spent = λ models. (c.in-Ok-write_piece.ensures.spent models).piece;
  spent_end = λ models over. (c.in-Ok-write_piece.ensures.spent models).end over;
}

-- ---- the rest where the spool was not cleared: nothing else was called

pub returns-in-Err-clause-told : goal.returns-in-Err-clause-told
returns-in-Err-clause-told g c = c.requires.ready.told

pub returns-in-Err-clause-spool : goal.returns-in-Err-clause-spool
returns-in-Err-clause-spool g c = record {
  capacity = c.clear.ensures.size;
  fits = fits_same _ _ _ _ _ c.in-Err.ensures.kept c.clear.ensures.written;
  cut = tt;
  written = λ models. tt;
  begins = λ forward models. begins_same _ _ _ c.clear.ensures.written;
  no_part = λ late models. no_part_none (g.L.Output.written c.args.spool.now) (g.L.Output.written c.clear.new.spool)
      (g.L.Spool.cuts c.clear.new.spool) _ c.clear.ensures.written;
  ends = λ late. ends_none _ _ _ _ _ c.clear.ensures.written c.in-Err.ensures.kept;
  back = λ models spool. tt;
}

pub returns-in-Err-clause-work : goal.returns-in-Err-clause-work
returns-in-Err-clause-work g c = record {
  calls =
      let long = ap length c.clear.ensures.written in
      let e = c.clear.ensures in
      omega (arith, long, e.given, e.reads, e.writes, e.calls);
  turns =
      let long = ap length c.clear.ensures.written in
      omega (arith, long, c.clear.ensures.given);
  words_most = tt;
  work =
      let long = ap length c.clear.ensures.written in
      record {
        given = omega arith;
        spool_given = omega (arith, c.clear.ensures.given);
        grown = omega (arith, long);
        taken = omega arith;
        steps = omega (arith, c.clear.ensures.given);
        greatest = omega arith;
      };
}

-- ---- the rest where the piece was not written: the partition was not called

pub returns-in-Err-write_piece-clause-told : goal.returns-in-Err-write_piece-clause-told
returns-in-Err-write_piece-clause-told g c = c.write_piece.ensures.told

pub returns-in-Err-write_piece-clause-same : goal.returns-in-Err-write_piece-clause-same
returns-in-Err-write_piece-clause-same g c =
    (c.write_piece.ensures.cutter.same_image, c.write_piece.ensures.cutter.same_limit)

-- ---- the rest where it was flashed, and where that was refused

pub returns-in-Ok-flash-clause-told : goal.returns-in-Ok-flash-clause-told
returns-in-Ok-flash-clause-told g c = c.write_piece.ensures.told

pub returns-in-Err-flash-clause-told : goal.returns-in-Err-flash-clause-told
returns-in-Err-flash-clause-told g c = c.write_piece.ensures.told

pub returns-in-Ok-flash-clause-same : goal.returns-in-Ok-flash-clause-same
returns-in-Ok-flash-clause-same g c = (c.write_piece.ensures.cutter.same_image, c.write_piece.ensures.cutter.same_limit)

pub returns-in-Err-flash-clause-same : goal.returns-in-Err-flash-clause-same
returns-in-Err-flash-clause-same g c =
    (c.write_piece.ensures.cutter.same_image, c.write_piece.ensures.cutter.same_limit)

pub returns-in-Ok-flash-clause-behind : goal.returns-in-Ok-flash-clause-behind
returns-in-Ok-flash-clause-behind g c =
    let p = c.in-Ok-write_piece.ensures.made.piece in
    goes_behind _ _ _ _ _ _ _ _ p.one_more p.begins p.ends p.passed

pub returns-in-Ok-flash-clause-greatest_end : goal.returns-in-Ok-flash-clause-greatest_end
returns-in-Ok-flash-clause-greatest_end g c models =
    segment g ((goal.at.returns-in-Ok-flash-clause-greatest_end g c).In-Ok-write_piece) models

-- ---- what is only said of a piece that was delivered, where it was not flashed

pub returns-in-Err-flash-clause-behind : goal.returns-in-Err-flash-clause-behind
returns-in-Err-flash-clause-behind g c = rw c.not_flashed.ensures tt

pub returns-in-Err-flash-clause-takes : goal.returns-in-Err-flash-clause-takes
returns-in-Err-flash-clause-takes g c = record {
  takes = rw c.not_flashed.ensures tt;
  spent = λ models. rw c.not_flashed.ensures tt;
  spent_end = λ models. rw c.not_flashed.ensures tt;
}

-- ---- what a callee says, unchanged

pub write_piece-requires-clause-ready : goal.write_piece-requires-clause-ready
write_piece-requires-clause-ready g c = c.requires.ready

pub returns-in-Err-write_piece-clause-source : goal.returns-in-Err-write_piece-clause-source
returns-in-Err-write_piece-clause-source g c = reads_err _ c.in-Err-write_piece.ensures.source

pub returns-in-Ok-flash-clause-source : goal.returns-in-Ok-flash-clause-source
returns-in-Ok-flash-clause-source g c = reads_ok _ c.in-Ok-write_piece.ensures.source

pub returns-in-Err-flash-clause-source : goal.returns-in-Err-flash-clause-source
returns-in-Err-flash-clause-source g c = reads_then c.in-Ok-write_piece.ensures.source (reads_none _ _ _)

pub returns-in-Err-clause-source : goal.returns-in-Err-clause-source
returns-in-Err-clause-source g c = reads_none _ _ _
