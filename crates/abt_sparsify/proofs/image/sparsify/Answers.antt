use Rattle.std.proofs.Common.{◌≡◌, arith, refl, ap, Result, Err}
use Rattle.abt_io.proofs.Lent.{reads_none, writes_none}
use Rattle.abt_pieces.proofs.Fronts.{nothing_more, as_many, no_more, max_most, run_not_full, run_unsaid}
use Rattle.abt_pieces.specs.Fault.{full_in_cut}
use Rattle.abt_sparsify.specs.Sparsify.{IsRawSize}
use Rattle.abt_sparsify.specs.declared.count.Written.{Written}
use Rattle.abt_pieces.specs.declared.fault.PieceFault.{PieceFault}
use Rattle.abt_sparsify.proofs.SparseSteps.{within_blocks, few_blocks, sparsify_causes, refused_bad, refused_large}
use Rattle.abt_sparsify.proofs.SparseSteps.{refused_cause}
use Rattle.abt_sparsify.proofs.image.sparsify.Goals as goal

-- the source or the size is refused
pub returns-in-Err : goal.returns-in-Err
returns-in-Err g c =
    let is = c.run_fault.ensures in
    let refused = c.in-Err.ensures.refused in
    let fails = λ (e : PieceFault). let r : Result Written PieceFault = Err e in r in
    let none : full_in_cut c.run_fault.result ≡ 0 = rw is (run_not_full c.in-Err.fault) in
    record {
      does = record {
        reads = reads_none _ g.S.Source _;
        writes = rw none (writes_none _ g.O.Output _);
        bad_block = λ bad. (ap fails (refused_bad _ _ _ _ is refused bad), refl, refl);
        too_large = λ good large. (ap fails (refused_large _ _ _ _ is refused good), refl, refl);
        within = λ n fits. no_more _ _;
        costs = record {
          given = as_many _;
          steps = as_many _;
          greatest = max_most _ _;
          calls = omega arith;
          turns =
              omega arith;
        };
        full = λ says. absurd (run_unsaid _ _ is says);
        cause = refused_cause _ _ _ _ _ _ _ _ _ is refused;
      };
      told = λ models. record { chunks = tt; front = nothing_more _ _; whole = tt; economy = tt };
      sparse = tt;
    }

-- the opened image is written
pub returns : goal.returns
returns g c =
    let r = c.in-Ok.raw in
    let e = c.in-Ok.ensures in
    let w = c.write_image.ensures in
    let size = e.size.0 in
    record {
      does = record {
        reads = w.moves.reads;
        writes = w.moves.writes;
        bad_block = λ bad. absurd (let own : IsRawSize r.size = (r.some, r.window, r.words) in bad (rw size at own));
        too_large = λ good large. absurd (few_blocks r.blocks c.args.block_size _ (rw size at r.covers) r.fits
            (rw e.size.1 large));
        within = λ n fits.
            let p = within_blocks r.blocks n r.size r.length r.last (rw (size, e.size.1) fits) in
            let q = rw size at p in
            let z = rw size at w.within in
            omega (arith, q, z);
        costs = rw size at w.costs;
        full = w.moves.full;
        cause = sparsify_causes c.write_image.result _ _ _ _ _ _ _ w.moves.cause;
      };
      told = λ models. rw size at (w.told models);
      sparse = rw (size, e.size.1) at w.sparse;
    }
