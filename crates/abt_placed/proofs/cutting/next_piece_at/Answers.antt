use Rattle.std.proofs.Common.{rules, ap, sym, refl, arith, ◌∙◌, ◌≡◌, ◌++◌, ℕ, List, true, false, inr, IsTrue, length}
use Rattle.abt_sparse.specs.Block.{classify}
use Rattle.abt_runs.specs.Raw.{RawPlace}
use Rattle.abt_runs.specs.RawLaws.{raw_long}
use Rattle.abt_runs.specs.declared.part.Cursor.{Cursor}
use Rattle.abt_pieces.specs.Cutter.{has_failed, has_more}
use Rattle.abt_pieces.specs.declared.fault.PieceFault.{PieceFault}
use Rattle.abt_pieces.specs.declared.stage.CutterStage.TheVariants.{Done, Failed}
use Rattle.abt_pieces.proofs.Cutting.{piece_is, told_more, told_failed}
use Rattle.abt_pieces.proofs.Stepping.{Behind, behind_unbegun, behind_passed}
use Rattle.abt_placed.specs.Segment.{IsUncut}
use Rattle.abt_placed.proofs.Pieces.{piece_image, piece_told, piece_exact, unfinished_refused}
use Rattle.abt_placed.proofs.cutting.next_piece_at.Goals as goal

-- the next piece is written
pub returns-in-Ok : goal.returns-in-Ok
returns-in-Ok g c =
    let q = c.lay_piece.ensures in
    let o = c.in-Ok.ensures in
    let p = c.pass.ensures in
    let r = c.args.cutter.now.runs in
    let start = c.args.cutter.now.start in
    let limit = c.args.cutter.now.limit in
    let x = g.S.Source.content c.args.source.now in
    let l = classify r.size x in
    let old = g.O.Output.written c.args.output.now in
    let new = g.O.Output.written c.lay_piece.new.output in
    let u = c.in-Ok.outline in
    let most = c.most_raw-most.result in
    let uncut : IsUncut r.size limit most = c.most_raw-most.ensures.uncut in
    let sound = o.made.sound uncut in
    let behind : Behind r.blocks u.piece.past c.pass.new.self.stage = record
    { end = sound.end; done = p.done; between = p.between } in
    let more : has_more c.args.cutter.now.stage ≡ true = search rules in
    let long : IsTrue g.S.Source.models → r.blocks ≡ length l = λ models. sym
    (raw_long r.length r.blocks r.size x r.some r.covers r.last (c.requires.ready.opened models)) in
    record {
      cutter = record { same_image = p.runs; same_limit = p.limit; unbegun = behind_unbegun _ _ _ behind };
      grows = record { grown = q.lays.grown; before = q.before; unfinished = tt };
      made = record {
        image = piece_image g.S.Source.models false x r.size r.blocks limit most start.block u.piece.past u.chunks old
            new (omega (arith, r.some), r.words, omega (arith, r.window)) c.most_raw-most.ensures.some
            c.most_raw-most.ensures.small r.fits o.made.whole;
        piece = rw (p.piece, p.start) (record {
          passed = (behind_passed _ _ _ _ sound.moves behind);
          begins = sound.first;
          ends = sound.past;
          least = sound.least;
          most = sound.long;
          one_more = p.made;
        });
        long = rw p.piece o.made.bytes;
        takes = rw p.piece (o.made.takes uncut);
        once = rw (p.piece, sound.first) o.work.last;
        going_turns = rw p.piece o.work.going_turns;
      };
      laid = λ models. rw p.piece (record {
        written = rw sound.first (piece_told g.S.Source.models false x r.size r.blocks limit most start.block
            u.piece.past u.chunks old new uncut models (long models) o.made.whole);
        coming = piece_told g.S.Source.models false x r.size r.blocks limit most start.block u.piece.past u.chunks old
            new uncut models (long models) o.made.whole ∙ ap (λ (y : List ℕ). old ++ y)
            (piece_is r.size limit l start.block u.piece.past (o.made.whole.told models).1);
        exact = (piece_exact g.S.Source.models false x r.size r.blocks limit most start.block u.chunks old new u.piece
            uncut models (long models) sound.first sound.order sound.end o.made.written o.made.bytes o.made.whole);
        greatest = rw sound.first (o.made.whole.told models).1;
      });
      costs = record {
        given = q.lays.given;
        steps = q.lays.received;
        greatest = q.lays.greatest;
        calls = omega (arith, q.work.calls, q.lays.given, q.lays.grown);
        turns = omega (arith, q.work.turns, q.lays.given, q.lays.grown);
      };
      writes = record {
        least = q.lays.grown;
        frame = q.lays.write_frame;
        faults = q.lays.write_faults;
        clean = o.lays.clean.1;
        full_faults = let going : has_failed c.args.cutter.now.stage
            ≡ false = search rules in rw going o.lays.full_faults;
      };
      reads = record {
        content = q.lays.content;
        size = q.lays.size;
        frame = q.lays.read_frame;
        faults = q.lays.faults;
        clean = o.lays.clean.0;
      };
      told = λ models. rw (p.limit, p.made, p.start) (told_more _ _ (λ (d : Cursor). RawPlace r.blocks r.size d) _
          r.blocks _ _ _ start u _ _ more (c.requires.ready.told models) sound (long models)
          (o.made.whole.told models).1
          o.made.next behind.done behind.between);
      within = let long = q.long uncut in omega (arith, long);
      over = record {
        none = tt;
        after_last = λ is. absurd (let z : has_more Done ≡ true = rw is at more in cc);
        again = λ f is. search rules;
        refused = tt;
      };
      work = record {
        economy = q.work.economy;
        calls = q.work.calls;
        turns = q.work.turns;
      };
      full = λ h e. absurd cc;
      cause = tt;
    }

-- it is not
pub returns-in-Err : goal.returns-in-Err
returns-in-Err g c =
    let q = c.lay_piece.ensures in
    let x = c.fail.ensures in
    let old = g.O.Output.written c.args.output.now in
    let new = g.O.Output.written c.lay_piece.new.output in
    record {
      cutter = record { same_image = x.rest.0; same_limit = x.rest.1; unbegun = rw x.stage refl };
      grows = record {
        grown = q.lays.grown;
        before = q.before;
        unfinished = unfinished_refused old new
            c.in-Err.ensures.unfinished;
      };
      made = tt;
      laid = λ models. tt;
      costs = record {
        given = q.lays.given;
        steps = q.lays.received;
        greatest = q.lays.greatest;
        calls = omega (arith, q.work.calls, q.lays.given, q.lays.grown);
        turns = omega (arith, q.work.turns, q.lays.given, q.lays.grown);
      };
      writes = record {
        least = q.lays.grown;
        frame = q.lays.write_frame;
        faults = q.lays.write_faults;
        clean = tt;
        full_faults = let going : has_failed c.args.cutter.now.stage
            ≡ false = search rules in rw (going, x.fault) c.in-Err.ensures.lays.full_faults;
      };
      reads = record {
        content = q.lays.content;
        size = q.lays.size;
        frame = q.lays.read_frame;
        faults = q.lays.faults;
        clean = tt;
      };
      told = λ models.
          let more : has_more c.args.cutter.now.stage ≡ true = search rules in
          rw (x.rest.1, x.rest.3, x.rest.2, x.stage) (told_failed _ _ _ _ _ _ c.args.cutter.now.start _ _ more
          (c.requires.ready.told models));
      within = let long = q.long c.most_raw-most.ensures.uncut in omega (arith, long);
      over = record {
        none = tt;
        after_last = search rules;
        again = search rules;
        refused = x.stage ∙ ap (λ (f : PieceFault). Failed f) (sym x.fault);
      };
      work = record {
        economy = q.work.economy;
        calls = q.work.calls;
        turns = q.work.turns;
      };
      full = λ h e. let z = rw x.fault at e in let long = c.in-Err.ensures.long c.most_raw-most.ensures.uncut in
          (c.in-Err.ensures.lays.full z, omega (arith, long, z));
      cause = inr (rw x.fault c.in-Err.ensures.lays.cause);
    }
