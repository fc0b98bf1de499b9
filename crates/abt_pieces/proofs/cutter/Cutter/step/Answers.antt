use Rattle.std.proofs.Common.{arith, Bool, ◌<◌, rules, sym, refl, inr, ◌≡◌, ◌≤◌, ◌+◌, ◌-◌, ℕ, true, false}
use Rattle.std.specs.Prelude.{IsTrue}
use Rattle.std.proofs.lemmas.Bool.{true≢false}
use Rattle.abt_io.proofs.Lent.{reads_none, writes_err, writes_ok}
use Rattle.abt_pieces.specs.Cutter.{segments_left}
use Rattle.abt_pieces.specs.Fault.{CutCause}
use Rattle.abt_pieces.specs.declared.outline.Outline.{Outline}
use Rattle.abt_pieces.specs.declared.fault.PieceFault.{PieceFault}
use Rattle.abt_pieces.specs.declared.fault.PieceFault.TheVariants.{Read, SourceChanged, TooLarge, BadBlock}
use Rattle.abt_pieces.specs.declared.fault.PieceFault.TheVariants.{LimitTooSmall}
use Rattle.abt_pieces.specs.declared.fault.PieceFault.TheVariants as faults
use Rattle.abt_pieces.specs.declared.stage.CutterStage.{CutterStage}
use Rattle.abt_pieces.specs.declared.stage.CutterStage.TheVariants.{Between, Begin, Done, Failed}
use Rattle.abt_pieces.proofs.Fronts.{wrote_rest, wrote_part, not_full}
use Rattle.abt_pieces.proofs.Stepping.{begun_told, header_comes, first_left, plan_most, told_moves, header_costs}
use Rattle.abt_pieces.proofs.SpendingStages.{outline_writes, nothing_read}
use Rattle.abt_sparse.specs.Chunk.{plain_header}
use Rattle.abt_pieces.proofs.Image.{header_leads, whole_header}
use Rattle.abt_pieces.proofs.cutter.Cutter.step.Goals as goal

within_header : (limit b w0 w1 : ℕ) → 64 + b ≤ limit → w1 ≤ w0 + 28 → 0 + (w1 - w0) ≤ limit
within_header limit b w0 w1 granted few = omega (arith, granted, few)

below_header : (limit b w0 w1 : ℕ) → 64 + b ≤ limit → w1 < w0 + 28 → 0 + (w1 - w0) < limit
below_header limit b w0 w1 granted few = omega (arith, granted, few)

-- a header reads nothing
cause_unread : (e : PieceFault) (models : Bool) (r r' w w' : ℕ) → CutCause e true 0 0 w w' → CutCause e models r r' w w'
cause_unread (Read f) models r r' w w' h = absurd (omega (arith, h.0))
cause_unread (faults.Write f) models r r' w w' h = h
cause_unread SourceChanged models r r' w w' h = absurd (true≢false h)
cause_unread TooLarge models r r' w w' h = absurd h
cause_unread (BadBlock n) models r r' w w' h = absurd h
cause_unread (LimitTooSmall n) models r r' w w' h = absurd h

begun_undone : (st : CutterStage) (o : Outline) → st ≡ Begin o → st ≡ Done → ⊥
begun_undone st o begun done = absurd cc

begun_unfailed : (st : CutterStage) (o : Outline) (f : PieceFault) → st ≡ Begin o → st ≡ Failed f → ⊥
begun_unfailed st o f begun failed = absurd cc

pub plan_on-requires-clause-ready : goal.plan_on-requires-clause-ready
plan_on-requires-clause-ready g c =
    let e = c.begin.ensures in
    let b = g.met.R.BlockRuns.bounded c.args.self.now.runs c.args.self.now.start c.args.self.now.sound.within in
    record {
      few = search rules;
      sound = search rules;
      taken = search rules;
      opened = c.requires.ready.opened;
      planned = λ models.
          let long = g.met.R.BlockRuns.long c.args.self.now.runs _ (c.requires.ready.opened models) in
          record {
            place = rw e.at (c.requires.ready.told models).place;
            planned = e.planned _ _ (omega (arith, b, long));
          };
    }

-- the header of a piece
pub returns-in-Ok : goal.returns-in-Ok
returns-in-Ok g c =
    let self = c.args.self.now in
    let r = self.runs in
    let e = c.begin-in-Begin.ensures in
    let o = c.in-Ok.ensures in
    let is = c.in-Begin.is in
    let greatest = e.one_step.greatest in
    let granted = self.sound.granted in
    let most = plan_most (g.R.BlockRuns.one r) (g.R.BlockRuns.count r) c.in-Begin.outline.piece.past in
    let size = g.met.R.BlockRuns.sized r in
    let some : 0 < g.R.BlockRuns.size r = omega (arith, size.0) in
    let room : 40 ≤ self.limit = omega (arith, granted) in
    let s = rw is at self.sound in
    let header = λ (models : IsTrue g.S.Source.models).
    header_comes _ _ (g.R.BlockRuns.count r) _ _ self.start c.in-Begin.outline
    (sym (g.met.R.BlockRuns.long r _ (c.requires.ready.opened models))) s.stage.first
    (g.met.R.BlockRuns.are_blocks r _ (c.requires.ready.opened models)) some room s.stage.long
    (rw is at (c.requires.ready.told models)).stage in
    let whole = whole_header (plain_header (g.R.BlockRuns.size r) (g.R.BlockRuns.count r) c.in-Begin.outline.chunks) _ _
    e.front o.whole in
    record {
      stepped = record {
        same = (e.keeps.runs, e.keeps.rest.0);
        reads = reads_none _ _ _;
        writes = rw is (writes_ok _ o.writes);
        told = λ models.
            let long = g.met.R.BlockRuns.long r _ (c.requires.ready.opened models) in
            let good = g.met.R.BlockRuns.are_blocks r _ (c.requires.ready.opened models) in
            rw (e.keeps.rest.0, e.keeps.rest.1, e.keeps.rest.2, o.stage)
            (begun_told _ _ _ (g.R.BlockRuns.count r) _ _ _ self.start c.in-Begin.outline
            (sym long) s.stage.first good some room s.stage.long (rw is at (c.requires.ready.told models)));
        begun = rw o.stage refl;
        goes_on = record {
          same_place = e.keeps.rest.1;
          same_number = e.keeps.rest.2;
          counted = search rules;
          left = rw (o.stage, is) (first_left (g.R.BlockRuns.left r) (g.R.BlockRuns.count r) _ self.start
              c.in-Begin.outline);
          paid = search rules;
          words = search rules;
        };
        within = rw is (within_header _ _ _ _ granted e.within);
        front = λ models. rw is (wrote_part _ _ _ _ _ e.front (header models));
        rest = λ models. rw (o.stage, is) (wrote_rest _ _ _ _ _ whole (header models));
        leads = rw (o.stage, is) (header_leads _ _ _ self.start c.in-Begin.outline _ _
            (omega (arith, size.0), size.1, e.fits.0) e.fits.1 e.fits.2 whole);
        all = tt;
        piece = tt;
        ends = tt;
        laid = λ models. tt;
        refused = tt;
        costs = rw is (header_costs _ _ _ _ _ _ refl refl most e.writes.least e.within e.one_step.steps
            (omega (arith, greatest)) e.costs.calls e.costs.turns);
        spends = λ models t spent. let h = rw is at spent in rw o.stage
            (nothing_read _ _ _ _ _ _ t _ c.in-Begin.outline _
            (outline_writes _ _ _ _ _ _ self.start t _ c.in-Begin.outline s.stage.first h));
        spent = λ models t spent. tt;
        full = λ going says. absurd (not_full says);
        cause = tt;
      };
      end = tt;
      after_last = λ d. absurd (begun_undone _ c.in-Begin.outline is d);
      again = λ f d. absurd (begun_unfailed _ c.in-Begin.outline f is d);
    }

-- and the output has failed
pub returns-in-Err : goal.returns-in-Err
returns-in-Err g c =
    let self = c.args.self.now in
    let r = self.runs in
    let e = c.begin-in-Begin.ensures in
    let o = c.in-Err.ensures in
    let is = c.in-Begin.is in
    let greatest = e.one_step.greatest in
    let granted = self.sound.granted in
    let most = plan_most (g.R.BlockRuns.one r) (g.R.BlockRuns.count r) c.in-Begin.outline.piece.past in
    let size = g.met.R.BlockRuns.sized r in
    let some : 0 < g.R.BlockRuns.size r = omega (arith, size.0) in
    let room : 40 ≤ self.limit = omega (arith, granted) in
    let s = rw is at self.sound in
    let header = λ (models : IsTrue g.S.Source.models).
    header_comes _ _ (g.R.BlockRuns.count r) _ _ self.start c.in-Begin.outline
    (sym (g.met.R.BlockRuns.long r _ (c.requires.ready.opened models))) s.stage.first
    (g.met.R.BlockRuns.are_blocks r _ (c.requires.ready.opened models)) some room s.stage.long
    (rw is at (c.requires.ready.told models)).stage in
    record {
      stepped = record {
        same = (e.keeps.runs, e.keeps.rest.0);
        reads = reads_none _ _ _;
        writes = rw is (writes_err _ o.writes);
        told = λ models.
            let l = g.R.BlockRuns.list r (g.S.Source.content c.args.source.now) in
            let b = g.R.BlockRuns.size r in
            let same : segments_left b self.limit l self.start.block self.stage ≡ segments_left b self.limit l
            self.start.block Between = rw is refl in
            rw (o.keeps.refused, e.keeps.rest.0, e.keeps.rest.1, e.keeps.rest.2)
            (told_moves _ _ b l self.limit self.made self.start self.stage (Failed c.in-Err.fault)
            (c.requires.ready.told models) (sym same) tt);
        begun = rw o.keeps.refused refl;
        goes_on = tt;
        within = rw is (within_header _ _ _ _ granted e.within);
        front = λ models. rw is (wrote_part _ _ _ _ _ e.front (header models));
        rest = λ models. tt;
        leads = tt;
        all = tt;
        piece = tt;
        ends = tt;
        laid = λ models. tt;
        refused = o.keeps.refused;
        costs = rw is (header_costs _ _ _ _ _ _ refl refl most e.writes.least e.within e.one_step.steps
            (omega (arith, greatest)) e.costs.calls e.costs.turns);
        spends = λ models t spent. tt;
        spent = λ models t spent. tt;
        full = λ going says. let z = o.full says in (z.0, rw is (below_header _ _ _ _ granted z.1));
        cause = inr (cause_unread c.in-Err.fault _ _ _ _ _ o.cause);
      };
      end = tt;
      after_last = λ d. absurd (begun_undone _ c.in-Begin.outline is d);
      again = λ f d. absurd (begun_unfailed _ c.in-Begin.outline f is d);
    }
