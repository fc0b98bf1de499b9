use Rattle.std.proofs.Common.{arith, ◌*◌, sym, refl, inl, inr, ◌⊎◌, ◌≡◌, ◌≤◌, ◌+◌, ◌∙◌, ◌-◌, ℕ, List, false, true}
use Rattle.abt_sparse.specs.Block.{Block}
use Rattle.abt_io.proofs.Lent.{reads_ok, writes_none}
use Rattle.abt_runs.specs.declared.part.Cursor.{Cursor}
use Rattle.abt_pieces.specs.Cutter.{coming, cut_left, cut_words, has_failed, is_begun, planned_left, segments_left}
use Rattle.abt_pieces.specs.Cutter.{silent_cut, so_far}
use Rattle.abt_pieces.specs.Image.{IsPlainImage, StageMayCome}
use Rattle.abt_pieces.specs.Outline.{piece_at}
use Rattle.abt_pieces.specs.Plan.{last_words}
use Rattle.abt_pieces.specs.SpentStage.{SpentPlan, SpentStage}
use Rattle.abt_pieces.specs.declared.plan.Planner.{Planner}
use Rattle.abt_pieces.specs.declared.stage.CutterStage.{CutterStage}
use Rattle.abt_pieces.specs.declared.stage.CutterStage.TheVariants.{Between, Plan, Begin, Done, Failed, Write}
use Rattle.abt_pieces.proofs.Fronts.{nothing_more, nothing_less, not_full}
use Rattle.abt_pieces.proofs.Stepping.{no_bytes_yet, told_moves, unwritten_costs}
use Rattle.abt_pieces.proofs.SpendingStages.{plan_begins_spent}
use Rattle.abt_pieces.proofs.Image.{leads_same}
use Rattle.abt_pieces.proofs.cutter.Cutter.plan_on.Goals as goal

words_unwritten : (t t' w w' g k : ℕ) → t' + w ≤ t + 2 * g + 3 + w' → t' + w ≤ t + 2 * g + (k - k) + 3 + w'
words_unwritten t t' w w' g k h = omega (arith, h)

-- the same segments are to come
still_to_cut : (b limit : ℕ) (l : List Block) (s : ℕ) (st old : CutterStage) → is_begun st ≡ true
    → segments_left b limit l s
    old ≡ segments_left b limit l s Between → segments_left b limit l s st ≡ segments_left b limit l s old
still_to_cut b limit l s Between old begun same = absurd cc
still_to_cut b limit l s (Plan p) old begun same = sym same
still_to_cut b limit l s (Begin o) old begun same = sym same
still_to_cut b limit l s (Write o w) old begun same = sym same
still_to_cut b limit l s Done old begun same = absurd cc
still_to_cut b limit l s (Failed f) old begun same = absurd cc

-- what the stage of a cutter is while the plan p goes on, or begins
record Planning (st : CutterStage) (start : Cursor) (p : Planner) : Type 0 where
  same : (b limit : ℕ) (l : List Block) (s : ℕ) → segments_left b limit l s st ≡ segments_left b limit l s Between
  none : so_far st ≡ 0
  going : has_failed st ≡ false
  silent : (n : ℕ) → silent_cut n st ≡ 6
  left : (L : Cursor → ℕ) (n : ℕ) → planned_left L start + L p.at ≤ cut_left L n start st
  words : (one n : ℕ) → cut_words one n start st ≡ last_words one n p.at.block
  coming : (b limit : ℕ) (l : List Block) (s : ℕ) → coming b limit l s st ≡ piece_at b limit l s
  comes : (b n : ℕ) (t : List ℕ) → IsPlainImage b n t → StageMayCome b n st t

planning : (st : CutterStage) (start : Cursor) (p : Planner) → (st ≡ Plan p) ⊎ ((st ≡ Between) × (p.at ≡ start))
    → Planning st
    start p
planning st start p (inl is) = record {
  same = λ b limit l s. rw is refl;
  none = rw is refl;
  going = rw is refl;
  silent = λ n. rw is refl;
  left = λ L n. rw is (omega arith);
  words = λ one n. rw is refl;
  coming = λ b limit l s. rw is refl;
  comes = λ b n t h. rw is h;
}
planning st start p (inr is) = record {
  same = λ b limit l s. rw is.0 refl;
  none = rw is.0 refl;
  going = rw is.0 refl;
  silent = λ n. rw is.0 refl;
  left = λ L n. rw (is.0, is.1) (omega arith);
  words = λ one n. rw (is.0, is.1) refl;
  coming = λ b limit l s. rw is.0 refl;
  comes = λ b n t h. rw is.0 h;
}

planning_spends : (Is : Cursor → Type 0) (charge copied : Cursor → ℕ) (held : Cursor → ℕ → ℕ) (b limit n one : ℕ)
    (start : Cursor) (t : ℕ) (st : CutterStage) (p : Planner) → (st ≡ Plan p) ⊎ ((st ≡ Between) × (p.at ≡ start))
    → SpentStage
    Is charge copied held b limit n one start t st → SpentPlan charge copied b limit start t p
planning_spends Is charge copied held b limit n one start t st p (inl is) h = rw is at h
planning_spends Is charge copied held b limit n one start t st p (inr is) h = plan_begins_spent _ _ _ _ start t p is.1
    (rw is.0 at h)

-- a part of the plan
pub returns-in-Ok : goal.returns-in-Ok
returns-in-Ok g c =
    let self = c.args.self.now in
    let p = c.plan.ensures in
    let o = c.in-Ok.ensures in
    let turns = p.costs.turns in
    let granted = self.sound.granted in
    let k = planning self.stage self.start c.args.from c.requires.at in
    record {
      stepped = record {
        same = (p.keeps.runs, p.keeps.rest.0);
        reads = reads_ok _ o.source.reads;
        writes = rw k.going (writes_none _ _ _);
        told = λ models.
            let l = g.R.BlockRuns.list self.runs (g.S.Source.content c.args.source.now) in
            let b = g.R.BlockRuns.size self.runs in
            let same = k.same b self.limit l self.start.block in
            rw (p.keeps.rest.0, p.keeps.rest.1, p.keeps.rest.2)
            (told_moves _ _ b l self.limit self.made self.start self.stage
            c.plan.new.self.stage (c.requires.told models)
            (still_to_cut b self.limit l self.start.block c.plan.new.self.stage self.stage o.goes_on.begun.0 same)
            (o.told models));
        begun = o.goes_on.begun.0;
        goes_on = record {
          same_place = p.keeps.rest.1;
          same_number = p.keeps.rest.2;
          counted = let z = o.goes_on.begun.1 in omega (arith, z, k.none);
          left = let z = k.left (g.R.BlockRuns.left self.runs) (g.R.BlockRuns.count self.runs) in
              omega (arith, o.goes_on.left, z);
          paid = let z = o.goes_on.paid in let y = k.silent (g.R.BlockRuns.count self.runs) in omega (arith, z, y);
          words = rw (k.words (g.R.BlockRuns.one self.runs) (g.R.BlockRuns.count self.runs), p.keeps.rest.1)
              (words_unwritten _ _ _ _ _ _ o.goes_on.words);
        };
        within = rw k.none (no_bytes_yet _ _ _ granted);
        front = λ models. nothing_more _ _;
        rest = λ models. rw (k.coming (g.R.BlockRuns.size self.runs) self.limit
            (g.R.BlockRuns.list self.runs (g.S.Source.content c.args.source.now)) self.start.block)
            (o.coming models ∙ nothing_less (g.O.Output.written c.args._output.now) _);
        leads = leads_same _ _ _ _ refl (λ t h. k.comes _ _ t (o.goes_on.comes t h));
        all = tt;
        piece = tt;
        ends = tt;
        laid = λ models. tt;
        refused = tt;
        costs = rw (k.words (g.R.BlockRuns.one self.runs) (g.R.BlockRuns.count self.runs))
            (unwritten_costs _ _ _ _ _ _ refl refl p.costs.given p.costs.received p.costs.one_step.steps
            p.costs.one_step.greatest p.costs.calls (omega (arith, turns)));
        spends = λ models t spent. o.spends t (planning_spends _ _ _ _ _ _ _ _ self.start t self.stage c.args.from
            c.requires.at spent);
        spent = λ models t spent. tt;
        full = λ going says. absurd (not_full says);
        cause = tt;
      };
      unended = tt;
    }
