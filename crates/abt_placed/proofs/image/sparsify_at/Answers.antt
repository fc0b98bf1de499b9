use Rattle.std.proofs.Common.{◌≡◌, ◌∙◌, ◌+◌, ◌*◌, ◌++◌, ℕ, List, arith, refl, sym, ap, inl, length, IsTrue, Result, Err}
use Rattle.std.proofs.lemmas.List.{take_all}
use Rattle.abt_pieces.proofs.Fronts.{as_many, no_more, max_most, run_unfilled, run_unsaid}
use Rattle.abt_pieces.specs.declared.fault.PieceFault.{PieceFault}
use Rattle.abt_sparsify.specs.Sparsify.{IsRawSize}
use Rattle.abt_sparsify.specs.declared.count.Written.{Written}
use Rattle.abt_sparsify.proofs.SparseSteps.{within_blocks, few_blocks, sparsify_causes, refused_bad, refused_large}
use Rattle.abt_sparsify.proofs.SparseSteps.{refused_cause}
use Rattle.abt_sparse.specs.Block.{Block}
use Rattle.abt_sparse.specs.Chunk.{spelling, chunks_of}
use Rattle.abt_placed.proofs.Pieces.{piece_image, image_blocks, unfinished_refused}
use Rattle.abt_placed.proofs.image.sparsify_at.Goals as goal
use Rattle.abt_io.proofs.Lent.{reads_none}

-- the source or the size is refused
pub returns-in-Err : goal.returns-in-Err
returns-in-Err g c =
    let is = c.run_fault.ensures in
    let refused = c.in-Err.ensures.refused in
    let fails = λ (e : PieceFault). let r : Result Written PieceFault = Err e in r in
    let old = g.O.Output.written c.args.output.now in
    record {
      does = record {
        reads = reads_none _ _ _;
        writes = record {
          least = as_many _;
          frame = refl;
          faults = as_many _;
          clean = tt;
          full_faults = run_unfilled _ _ _ is;
        };
        bad_block = λ bad. (ap fails (refused_bad _ _ _ _ is refused bad), refl, refl);
        too_large = λ good large. (ap fails (refused_large _ _ _ _ is refused good), refl, refl);
        within = λ n fits. no_more _ _;
        costs = record {
          given = as_many _;
          steps = as_many _;
          greatest = max_most _ _;
          calls = omega arith;
          turns =
              omega arith;
        };
        full = λ says. absurd (run_unsaid _ _ is says);
        cause = refused_cause _ _ _ _ _ _ _ _ _ is refused;
      };
      written = tt;
      chunks = λ models. tt;
      grows = record { grown = as_many _; before = take_all (length old) old (omega arith); unfinished = inl refl };
      whole = λ models. tt;
      takes = record {
        economy = no_more _ _;
        once = tt;
      };
    }

-- the opened image is written
pub returns-in-Ok-lay_piece : goal.returns-in-Ok-lay_piece
returns-in-Ok-lay_piece g c =
    let r = c.in-Ok.runs in
    let w = c.lay_piece.ensures in
    let o = c.in-Ok-lay_piece.ensures in
    let e = c.in-Ok.ensures in
    let size = e.size.0 in
    let u = c.in-Ok-lay_piece.outline in
    let x = g.S.Source.content c.args.source.now in
    let old = g.O.Output.written c.args.output.now in
    let new = g.O.Output.written c.lay_piece.new.output in
    let all : u.piece.past ≡ r.blocks = o.made.reached (omega arith) in
    let blocks = λ (models : IsTrue g.S.Source.models). image_blocks g.S.Source.models c.args.is_tail_raw x r.size
    r.length r.blocks 18446744073709551615 c.args.most u.piece.past u.chunks old new r.some r.covers r.last
    (omega (arith, e.opened)) models all o.made.whole in
    let laid = o.made.whole.laid in
    record {
      does = record {
        reads = record {
          content = w.lays.content;
          size = w.lays.size;
          frame = w.lays.read_frame;
          faults = w.lays.faults;
          clean = o.lays.clean.0;
        };
        writes = record {
          least = w.lays.grown;
          frame = w.lays.write_frame;
          faults = w.lays.write_faults;
          clean = o.lays.clean.1;
          full_faults = o.lays.full_faults;
        };
        bad_block = λ bad. absurd (let own : IsRawSize r.size = (r.some, r.window, r.words) in bad (rw size at own));
        too_large = λ good large. absurd (few_blocks r.blocks c.args.block_size _ (rw size at r.covers) r.fits
            (rw e.size.1 large));
        within = λ n fits.
            let p = within_blocks r.blocks n r.size r.length r.last (rw (size, e.size.1) fits) in
            let q = rw size at p in
            let z = rw size at w.within in
            omega (arith, q, z);
        costs = record {
          given = w.lays.given;
          steps = w.lays.received;
          greatest = w.lays.greatest;
          calls = omega (arith, w.work.calls, w.lays.given, w.lays.grown);
          turns = let turns = rw size at w.work.turns in omega (arith, turns, w.lays.given, w.lays.grown);
        };
        full = λ h. absurd cc;
        cause = tt;
      };
      written = record {
        blocks = (rw (size, e.size.1) at r.covers, rw (size, e.size.1) at r.last);
        long = o.made.bytes;
        image = rw size at (piece_image g.S.Source.models c.args.is_tail_raw x r.size r.blocks 18446744073709551615
            c.args.most 0 u.piece.past u.chunks old new (omega (arith, r.some), r.words, omega (arith, r.window))
            c.requires.some (rw size c.requires.small) r.fits o.made.whole);
      };
      chunks = λ models. (
        rw size at (sym laid.count ∙ ap length (blocks models)),
        rw size at
            (laid.chunks_are ∙ ap (λ (l : List Block). length (chunks_of c.args.most l)) (blocks models)),
      );
      grows = record { grown = w.lays.grown; before = w.before; unfinished = tt };
      whole = λ models. rw size at (laid.stands ∙ ap (λ (l : List Block). old ++ spelling r.size c.args.most l)
          (blocks models));
      takes = record {
        economy = let read = rw e.size.1 at w.work.economy in omega (arith, read);
        once =
            let whole : u.piece.past * r.size ≡ r.blocks * r.size = ap (λ (n : ℕ). n * r.size) all in
            let read : g.S.Source.given c.lay_piece.new.source ≡ g.S.Source.given c.args.source.now
            + r.length = omega (arith, whole, r.covers, w.work.economy, o.work.least) in
            rw e.size.1 at read;
      };
    }

-- it is not
pub returns-in-Err-lay_piece : goal.returns-in-Err-lay_piece
returns-in-Err-lay_piece g c =
    let r = c.in-Ok.runs in
    let w = c.lay_piece.ensures in
    let x = c.in-Err-lay_piece.ensures in
    let e = c.in-Ok.ensures in
    let size = e.size.0 in
    let old = g.O.Output.written c.args.output.now in
    let new = g.O.Output.written c.lay_piece.new.output in
    record {
      does = record {
        reads = record {
          content = w.lays.content;
          size = w.lays.size;
          frame = w.lays.read_frame;
          faults = w.lays.faults;
          clean = tt;
        };
        writes = record {
          least = w.lays.grown;
          frame = w.lays.write_frame;
          faults = w.lays.write_faults;
          clean = tt;
          full_faults = x.lays.full_faults;
        };
        bad_block = λ bad. absurd (let own : IsRawSize r.size = (r.some, r.window, r.words) in bad (rw size at own));
        too_large = λ good large. absurd (few_blocks r.blocks c.args.block_size _ (rw size at r.covers) r.fits
            (rw e.size.1 large));
        within = λ n fits.
            let p = within_blocks r.blocks n r.size r.length r.last (rw (size, e.size.1) fits) in
            let q = rw size at p in
            let z = rw size at w.within in
            omega (arith, q, z);
        costs = record {
          given = w.lays.given;
          steps = w.lays.received;
          greatest = w.lays.greatest;
          calls = omega (arith, w.work.calls, w.lays.given, w.lays.grown);
          turns = let turns = rw size at w.work.turns in omega (arith, turns, w.lays.given, w.lays.grown);
        };
        full = x.lays.full;
        cause = sparsify_causes (let r : Result Written PieceFault = Err c.in-Err-lay_piece.fault in r) _ _ _ _ _ _ _
            x.lays.cause;
      };
      written = tt;
      chunks = λ models. tt;
      grows = record { grown = w.lays.grown; before = w.before; unfinished = unfinished_refused old new x.unfinished };
      whole = λ models. tt;
      takes = record {
        economy = let read = rw e.size.1 at w.work.economy in omega (arith, read);
        once = tt;
      };
    }
