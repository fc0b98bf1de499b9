use Rattle.std.proofs.Common.{rules, sym, ◌≡◌, true}
use Rattle.abt_io.proofs.Lent.{reads_ok}
use Rattle.abt_pieces.specs.Cutter.{has_more}
use Rattle.abt_pieces.proofs.Cutting.{told_more}
use Rattle.abt_pieces.proofs.Stepping.{Behind, behind_unbegun, behind_passed}
use Rattle.abt_pieces.proofs.cutter.Cutter.skip_piece.Goals as goal

-- the next piece is passed over
pub returns-in-Ok : goal.returns-in-Ok
returns-in-Ok g c =
    let q = c.outline.ensures in
    let o = c.in-Ok.ensures in
    let p = c.pass.ensures in
    let behind : Behind (g.R.BlockRuns.count c.args.self.now.runs) c.in-Ok.outline.piece.past c.pass.new.self.stage =
    record { end = o.sound.end; done = p.done; between = p.between } in
    record {
      left = record {
        cutter = record { same_image = p.runs; same_limit = p.limit; unbegun = behind_unbegun _ _ _ behind };
        reads = reads_ok _ o.source.reads;
        told = λ models.
            let long = g.met.R.BlockRuns.long c.args.self.now.runs _ (c.requires.ready.opened models) in
            let more : has_more c.args.self.now.stage ≡ true = search rules in
            rw (p.limit, p.made, p.start) (told_more _ _ (g.R.BlockRuns.within c.args.self.now.runs) _
            (g.R.BlockRuns.count c.args.self.now.runs) _ _ _ c.args.self.now.start c.in-Ok.outline _ _ more
            (c.requires.ready.told models) o.sound (sym long) (o.told models).greatest
            (o.told models).place behind.done behind.between);
        refused = tt;
      };
      passed = record {
        piece = rw (p.piece, p.start) (record {
          passed = behind_passed _ _ _ _ o.sound.moves behind;
          begins = o.sound.first;
          ends = o.sound.past;
          least = o.sound.least;
          most = o.sound.long;
          one_more = p.made;
        });
        charges = rw (p.piece, p.start) o.charges;
        takes = rw (p.piece, p.start) o.takes;
        words = rw p.piece o.words;
      };
      exact = λ models. rw p.piece (o.told models).exact.is;
      greatest = λ models. rw (p.piece, o.sound.first) (o.told models).greatest;
      none = tt;
      again = search rules;
      costs = q.costs;
      cause = tt;
    }
