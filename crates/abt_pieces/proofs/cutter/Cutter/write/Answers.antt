use Rattle.std.proofs.Common.{sym, ap, refl, arith, ◌∙◌, ◌≡◌, length, ℕ, List}
use Rattle.abt_io.proofs.Lent.{reads_ok, writes_ok}
use Rattle.abt_pieces.proofs.Fronts.{not_full, nothing_left}
use Rattle.abt_pieces.proofs.Cutting.{told_more}
use Rattle.abt_pieces.proofs.Stepping.{Behind, behind_unbegun, behind_passed, piece_covers, plan_most, write_costs}
use Rattle.abt_pieces.proofs.SpendingStages.{writing_goes, writing_ends}
use Rattle.abt_pieces.proofs.Image.{nothing_appended}
use Rattle.abt_pieces.proofs.cutter.Cutter.write.Goals as goal

-- the piece goes on
pub returns-in-Ok-false : goal.returns-in-Ok-false
returns-in-Ok-false g c =
    let a = c.step.ensures in
    let e = c.in-Ok-false.ensures in
    let test = c.in-Ok-false.field-0-test in
    let is = c.requires.at in
    let s = (rw is at c.args.self.now.sound).stage in
    let most = plan_most (g.R.BlockRuns.one c.args.self.now.runs) (g.R.BlockRuns.count c.args.self.now.runs)
    c.args.outline.piece.past in
    let words = e.stepped.words in
    record {
      stepped = record {
        same = (refl, refl);
        reads = reads_ok _ e.stepped.reads;
        writes = rw is (writes_ok _ e.stepped.writes);
        told = λ models. let h = rw is at (c.requires.ready.told models) in
            record {
              place = h.place;
              cuts = h.cuts;
              stage =
                  record { outline = h.stage.outline; writer = e.stepped.told models };
            };
        begun = refl;
        goes_on = record {
          same_place = refl;
          same_number = refl;
          counted = rw is (omega (arith, e.stepped.counted, a.stepped.costs.grown, s.rest));
          left = rw is (e.stepped.left test);
          paid = let z = e.stepped.paid test in rw is (omega (arith, z));
          words = rw is (omega (arith, words));
        };
        within = rw is (omega (arith, a.stepped.within, a.stepped.costs.grown, s.rest, s.outline.long));
        front = λ models. rw is (a.stepped.front models);
        rest = λ models. rw (is, a.stepped.segment.0, a.stepped.segment.1) (e.stepped.rest models);
        leads = rw is (e.stepped.leads test);
        all = tt;
        piece = tt;
        ends = tt;
        laid = λ models. tt;
        refused = tt;
        costs = rw is (write_costs _ _ _ _ _ _ _ most a.stepped.costs);
        spends = λ models t spent.
            let told = (rw is at (c.requires.ready.told models)).stage in
            let h = rw is at spent in
            writing_goes _ _ _ _ _ _ t _ _ c.args.outline c.args.from c.step.new.self h
            (e.stepped.spends models c.args.outline.next s.outline.within told.outline.place
            (sym (s.past ∙ s.outline.past)) h.fresh h.begun h.total h.spent);
        spent = λ models t spent. tt;
        full = λ going says. absurd (not_full says);
        cause = tt;
      };
      unended = tt;
    }

-- the piece is whole
pub returns-in-Ok-true : goal.returns-in-Ok-true
returns-in-Ok-true g c =
    let a = c.step.ensures in
    let e = c.in-Ok-true.ensures in
    let test = c.in-Ok-true.field-0-test in
    let p = c.pass.ensures in
    let is = c.requires.at in
    let sound = rw is at c.args.self.now.sound in
    let s = sound.stage in
    let ended = e.ended test in
    let same = ap (λ (x : List ℕ). length x) ended.1 in
    let past : c.step.new.self.past ≡ c.args.outline.piece.past = a.stepped.segment.1 ∙ s.past in
    let behind : Behind (g.R.BlockRuns.count c.args.self.now.runs) c.args.outline.piece.past c.pass.new.self.stage =
    record { end = s.outline.end; done = p.done; between = p.between } in
    let most = plan_most (g.R.BlockRuns.one c.args.self.now.runs) (g.R.BlockRuns.count c.args.self.now.runs)
    c.args.outline.piece.past in
    let words = e.stepped.words in
    record {
      stepped = record {
        same = (p.runs, p.limit);
        reads = reads_ok _ e.stepped.reads;
        writes = rw is (writes_ok _ e.stepped.writes);
        told = λ models.
            let long = g.met.R.BlockRuns.long c.args.self.now.runs _ (c.requires.ready.opened models) in
            let h = rw is at (c.requires.ready.told models) in
            rw (p.limit, p.made, p.start) (told_more _ _ (g.R.BlockRuns.within c.args.self.now.runs) _
            (g.R.BlockRuns.count c.args.self.now.runs) _ _ _ c.args.self.now.start c.args.outline _ _ refl h
            s.outline (sym long) h.stage.outline.greatest h.stage.outline.place behind.done behind.between);
        begun = behind_unbegun _ _ _ behind;
        goes_on = tt;
        within = rw is (omega (arith, a.stepped.within, a.stepped.costs.grown, s.rest, s.outline.long));
        front = λ models. rw is (a.stepped.front models);
        rest = λ models. tt;
        leads = tt;
        all = rw is (nothing_appended _ _ _ ended.1 (e.all test));
        piece = record {
          passed = rw p.piece (behind_passed _ _ _ _ s.outline.moves behind);
          begins = rw p.piece s.outline.first;
          ends = rw (p.piece, p.start) s.outline.past;
          least = rw p.piece s.outline.least;
          most = rw p.piece s.outline.long;
          one_more = p.made;
        };
        ends = record {
          long = rw (p.piece, is) (omega (arith, ended.0, same));
          takes = rw (p.piece, p.start) sound.taken;
          words =
              let z = piece_covers (g.R.BlockRuns.one c.args.self.now.runs) (g.R.BlockRuns.count c.args.self.now.runs)
              c.args.outline.piece.past c.step.new.self past in
              rw (is, p.piece) (omega (arith, words, z));
        };
        laid = λ models. let h = rw is at (c.requires.ready.told models) in record {
          written = rw is (nothing_left _ _ _ _ ended.1 h.stage.writer.long ended.0);
          exact = rw p.piece h.stage.outline.exact.is;
          greatest = rw (p.piece, s.outline.first) h.stage.outline.greatest;
        };
        refused = tt;
        costs = rw is (write_costs _ _ _ _ _ _ _ most a.stepped.costs);
        spends = λ models t spent. tt;
        spent = λ models t spent.
            let told = (rw is at (c.requires.ready.told models)).stage in
            let h = rw is at spent in
            let z = e.spent models c.args.outline.next s.outline.within told.outline.place
            (sym (s.past ∙ s.outline.past)) h.fresh h.begun h.total h.spent test in
            rw (p.piece, p.start) (writing_ends _ _ _ _ _ _ t _ _ c.args.outline c.args.from h z);
        full = λ going says. absurd (not_full says);
        cause = tt;
      };
      unended = tt;
    }
