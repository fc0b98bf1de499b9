use Rattle.std.proofs.Common.{ap, arith}
use Rattle.abt_io.proofs.Lent.{reads_err, reads_none, reads_ok, reads_then}
use Rattle.abt_pieces.proofs.Fronts.{not_told, run_causes}
use Rattle.abt_pieces.proofs.Cutting.{moves}
use Rattle.abt_pieces.proofs.Stepping.{piece_covers_plan}
use Rattle.abt_pieces.proofs.cutter.Cutter.outline.Goals as goal

-- the source has failed
pub returns-in-Err : goal.returns-in-Err
returns-in-Err g c =
    let a = c.plan_piece.ensures in
    record {
      source = record {
        reads = reads_err _ c.in-Err.ensures.source.reads;
        cause = run_causes _ _ _ _ _ _ _ c.run_fault.ensures c.in-Err.ensures.source.cause;
      };
      sound = tt;
      told = λ models. tt;
      charges = tt;
      takes = tt;
      costs = a.costs;
      words = tt;
    }

-- the piece is planned
pub returns-in-Ok-planned : goal.returns-in-Ok-planned
returns-in-Ok-planned g c =
    let a = c.plan_piece.ensures in
    let e = c.in-Ok.ensures in
    let o = c.in-Ok-planned.ensures in
    record {
      source = record { reads = reads_ok _ e.source.reads; cause = tt };
      sound = rw e.sound.first at o.sound;
      told = λ models.
          let x = (c.requires.told models).0 in
          let exact = o.exact in
          let runs = c.args.self.now.runs in
          record {
            exact = exact _ (g.met.R.BlockRuns.long runs _ x) (g.met.R.BlockRuns.are_blocks runs _ x)
                (e.told models).planned;
            greatest = rw o.next.1 (e.greatest models);
            place = rw o.next.0 (e.told models).place;
          };
      charges = record {
        charged = rw o.next.0 e.charges.charged;
        charged_end = λ over. let end = e.charges.charged_end (rw o.next.1 at over) in rw o.next.0 end;
      };
      takes = let next = ap (g.R.BlockRuns.taken c.args.self.now.runs) o.next.0 in omega
          (arith, next, o.longer, e.takes);
      costs = a.costs;
      words =
          let z = piece_covers_plan (g.R.BlockRuns.one c.args.self.now.runs) (g.R.BlockRuns.count c.args.self.now.runs)
          c.in-Ok.planner.at.block in
          rw o.next.1 (omega (arith, e.words, z));
    }

-- the image ended before its blocks did
pub returns-in-Err-planned : goal.returns-in-Err-planned
returns-in-Err-planned g c =
    let a = c.plan_piece.ensures in
    let e = c.in-Ok.ensures in
    let r = c.in-Err-planned.ensures.refused in
    let size = g.met.R.BlockRuns.sized c.args.self.now.runs in
    record {
      source = record {
        reads = reads_then e.source.reads (reads_none _ _ _);
        cause = rw r.0 (not_told _ (λ models.
            let long = g.met.R.BlockRuns.long c.args.self.now.runs _ (c.requires.told models).0 in
            moves _ _ _ c.in-Ok.planner size.0 c.args.self.now.sound.granted (e.ends models) r.1 (rw long r.2)));
      };
      sound = tt;
      told = λ models. tt;
      charges = tt;
      takes = tt;
      costs = a.costs;
      words = tt;
    }
