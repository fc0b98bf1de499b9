use Rattle.std.proofs.Common.{rules, arith, ap, sym, ◌∙◌, ◌≡◌, ◌+◌, ◌++◌, ℕ, List, inl, inr}
use Rattle.std.proofs.lemmas.Bool.{false≢true}
use Rattle.abt_pieces.specs.Cutter.{is_begun}
use Rattle.abt_io.proofs.Lent.{reads_err, reads_ok, reads_then, writes_err, writes_ok}
use Rattle.abt_io.proofs.Lent.{writes_then}
use Rattle.abt_pieces.specs.declared.stage.CutterStage.TheVariants.{Between, Done}
use Rattle.abt_pieces.specs.declared.stage.CutterStage.{CutterStage}
use Rattle.abt_pieces.specs.declared.stage.CutterStage.TheVariants as stages
use Rattle.abt_pieces.specs.declared.fault.PieceFault.{PieceFault}
use Rattle.abt_pieces.proofs.Fronts.{front_join, rest_join, not_full}
use Rattle.abt_pieces.proofs.Stepping.{whole_front, piece_came}
use Rattle.abt_pieces.proofs.Joining.{steps_join, greatest_join, counted_join, within_join, long_join, calls_join}
use Rattle.abt_pieces.proofs.Joining.{writes_join, turns_join, words_join, costs_join, no_fault, from_between}
use Rattle.abt_pieces.proofs.Joining.{more_no_end, piece_no_end, between_undone, between_unfailed}
use Rattle.abt_pieces.specs.Image.{StageMayCome}
use Rattle.abt_pieces.proofs.Image.{leads_join, leads_whole, still_unfailed, between_image}
use Rattle.abt_pieces.specs.SpentStage.{all_passes}
use Rattle.abt_pieces.proofs.SpendingStages.{stage_joins}
use Rattle.abt_pieces.proofs.Failures.{full_at_fresh, full_at_ok, still_refused, writes_as}
use Rattle.abt_pieces.proofs.cutter.Cutter.next_piece.Goals as goal

done_unfailed : (st : CutterStage) (f : PieceFault) → st ≡ Done → st ≡ stages.Failed f → ⊥
done_unfailed st f done failed = absurd cc

pub step-requires : goal.step-requires
step-requires g c =
    let i = c.steps.invariant in
    record {
      ready = record {
        opened = λ models. rw (i.runs, i.reads.content models) (c.requires.ready.opened models);
        told = λ models. rw (i.runs, i.reads.content models) (i.told models);
      };
    }

pub steps-smaller : goal.steps-smaller
steps-smaller g c =
    let on = rw c.in-Ok-More.field-0-is at c.in-Ok-More.ensures.stepped.goes_on in
    rw on.same_place (rw c.steps.invariant.runs at on.left)

pub steps-preserved : goal.steps-preserved
steps-preserved g c =
    let i = c.steps.invariant in
    let e = c.step.ensures.stepped in
    let o = c.in-Ok-More.ensures.stepped in
    let is = c.in-Ok-More.field-0-is in
    let on = rw is at o.goes_on in
    let begun = rw is at o.begun in
    let costs = e.costs in
    let paid = rw i.runs at on.paid in
    let words = rw i.runs at on.words in
    let between : c.args.self.now.stage ≡ Between = from_between _ _ c.requires.unbegun i.fresh
    (λ d. more_no_end (rw is at (c.in-Ok-More.ensures.after_last d)))
    (λ f d. no_fault _ f (c.in-Ok-More.ensures.again f d).0) in
    record {
      runs = e.same.0 ∙ i.runs;
      limit = e.same.1 ∙ i.limit;
      start = on.same_place ∙ i.start;
      made = on.same_number ∙ i.made;
      reads = reads_ok tt (reads_then i.reads o.reads);
      writes = writes_ok tt (writes_then i.writes (writes_as (full_at_ok _) o.writes));
      told = λ models. rw (i.runs, i.reads.content models) at (e.told models);
      fresh = inl (begun, between);
      counted = counted_join _ _ _ _ _ i.writes.least costs.grown on.counted i.counted;
      front = λ models. front_join _ _ _ _ _ i.writes.least e.costs.grown (i.front models) (i.rest models)
          (rw (i.runs, i.reads.content models, i.limit, i.start) at (e.front models));
      rest = λ models.
          let r = rw is at (o.rest models) in
          rest_join _ _ _ _ _ _ i.writes.least e.costs.grown (i.rest models)
          (rw (i.runs, i.reads.content models, i.limit, i.start) at r);
      given = omega (arith, i.given, e.costs.given);
      steps = steps_join _ _ _ _ _ _ _ i.steps c.tick.ensures.steps costs.steps costs.received;
      greatest = greatest_join _ _ _ _ _ _ i.greatest c.tick.ensures.greatest costs.greatest costs.received;
      calls = calls_join _ _ _ _ _ _ _ _ _ _ _ i.given costs.given i.writes.least costs.grown i.calls costs.calls paid;
      write_calls = writes_join _ _ _ _ _ _ _ _ _ _ _ i.given costs.given i.writes.least costs.grown i.write_calls
          costs.write_calls paid;
      turns = turns_join _ _ _ _ _ _ _ _ _ _ _ _ _ _ i.given costs.given i.writes.least costs.grown i.turns
          c.tick.ensures.turns words paid;
      spent = λ models.
          let step = rw (i.runs, i.reads.content models, i.limit, i.start) at (rw is at (o.spends models)) in
          stage_joins (λ x. g.R.BlockRuns.within c.args.self.now.runs x × g.R.BlockRuns.place c.args.self.now.runs
          (g.S.Source.content c.args.source.now) x) (g.R.BlockRuns.charge c.args.self.now.runs)
          (g.R.BlockRuns.copied c.args.self.now.runs) (g.R.BlockRuns.held c.args.self.now.runs)
          (g.R.BlockRuns.size c.args.self.now.runs) c.args.self.now.limit (g.R.BlockRuns.count c.args.self.now.runs)
          (g.R.BlockRuns.one c.args.self.now.runs) c.args.self.now.start
          (all_passes (g.R.BlockRuns.charge c.args.self.now.runs) (g.R.BlockRuns.copied c.args.self.now.runs)
          c.args.self.now.start) (g.S.Source.given c.args.source.now) (g.S.Source.given c.steps.source)
          (g.S.Source.given c.step.new.source) c.step.new.self.stage i.given e.costs.given (step _ (i.spent models));
      leads = leads_join (StageMayCome (g.R.BlockRuns.size c.args.self.now.runs)
          (g.R.BlockRuns.count c.args.self.now.runs) c.args.self.now.stage)
          (StageMayCome (g.R.BlockRuns.size c.args.self.now.runs) (g.R.BlockRuns.count c.args.self.now.runs)
          c.steps.self.stage) (StageMayCome (g.R.BlockRuns.size c.args.self.now.runs)
          (g.R.BlockRuns.count c.args.self.now.runs) c.step.new.self.stage) _ _ _ i.leads
          (rw i.runs at (rw is at o.leads));
    }

-- the piece is written
pub returns-in-Ok-Piece : goal.returns-in-Ok-Piece
returns-in-Ok-Piece g c =
    let i = c.steps.invariant in
    let e = c.step.ensures.stepped in
    let o = c.in-Ok-Piece.ensures.stepped in
    let is = c.in-Ok-Piece.field-0-is in
    let between : c.args.self.now.stage ≡ Between = from_between _ _ c.requires.unbegun i.fresh
    (λ d. piece_no_end _ (rw is at (c.in-Ok-Piece.ensures.after_last d)))
    (λ f d. no_fault _ f (c.in-Ok-Piece.ensures.again f d).0) in
    let piece = rw is at o.piece in
    let ends = rw is at o.ends in
    record {
      left = record {
        cutter = record { same_image = e.same.0 ∙ i.runs; same_limit = e.same.1 ∙ i.limit; unbegun = rw is at o.begun };
        reads = reads_ok _ (reads_then i.reads o.reads);
        told = λ models. rw (i.runs, i.reads.content models) at (e.told models);
        refused = tt;
      };
      writes = writes_as (sym (full_at_ok c.args.self.now.stage))
          (writes_ok _ (writes_then i.writes (writes_as (full_at_ok _) o.writes)));
      within = within_join _ _ _ _ _ i.writes.least e.costs.grown (rw i.limit at e.within) i.counted;
      front = λ models. front_join _ _ _ _ _ i.writes.least e.costs.grown (i.front models) (i.rest models)
          (rw (i.runs, i.reads.content models, i.limit, i.start) at (e.front models));
      made = record {
        image = between_image _ _ _ _ _ between (leads_whole _ _ _ _ _ i.leads (rw i.runs at (rw is at o.all)));
        piece = record {
          passed = rw i.runs at piece.passed;
          begins = rw i.start at piece.begins;
          ends = piece.ends;
          least = piece.least;
          most = rw i.limit at piece.most;
          one_more = piece.one_more ∙ ap (λ (n : ℕ). n + 1) i.made;
        };
        long = long_join _ _ _ _ _ i.writes.least e.costs.grown ends.long i.counted;
        takes = rw (i.runs, i.start) at ends.takes;
        words = words_join _ _ _ _ _ _ _ _ _ _ _ _ _ i.given e.costs.given i.writes.least e.costs.grown i.turns
            c.tick.ensures.turns (rw i.runs at ends.words);
      };
      laid = λ models.
          let came = rw is at (o.laid models) in
          let whole = whole_front _ _ _ _ _ _ (i.front models) (i.rest models)
          (rw (i.runs, i.reads.content models, i.limit, i.start) at came.written) in
          let greatest = rw (i.runs, i.reads.content models, i.limit) at came.greatest in
          record {
            written = whole ∙ ap (λ (y : List ℕ). g.O.Output.written c.args.output.now ++ y)
                (piece_came _ _ _ _ c.in-Ok-Piece.piece _ between (rw i.start at piece.begins) greatest);
            coming = rw between at whole;
            exact = rw (i.runs, i.reads.content models) at came.exact;
            greatest = greatest;
          };
      none = tt;
      after_last = λ d. absurd (between_undone _ between d);
      again = λ f d. absurd (between_unfailed _ f between d);
      costs = costs_join _ _ _ _ _ _ _ _ _ _ (rw i.runs at e.costs) i.given i.writes.least i.steps i.greatest i.calls
          i.write_calls i.turns c.tick.ensures.steps c.tick.ensures.greatest c.tick.ensures.turns;
      spent = λ models.
          let step = rw (i.runs, i.reads.content models, i.limit, i.start) at (rw is at (o.spent models)) in
          let z = step _ (i.spent models) in
          record {
            most = omega (arith, z.most, i.given, e.costs.given);
            end = λ over. let y = z.end over in omega
                (arith, y, i.given, e.costs.given);
          };
      full = λ h says. absurd (not_full says);
      cause = tt;
    }

-- there is no piece more
pub returns-in-Ok-End : goal.returns-in-Ok-End
returns-in-Ok-End g c =
    let i = c.steps.invariant in
    let e = c.step.ensures.stepped in
    let o = c.in-Ok-End.ensures.stepped in
    let is = c.in-Ok-End.field-0-is in
    let end = rw is at c.in-Ok-End.ensures.end in
    let none : (c.args.self.now.stage ≡ Done) × (c.step.new.output ≡ c.args.output.now)
    × (c.step.new.source ≡ c.args.source.now) × (c.step.new.self ≡ c.args.self.now) = elim i.fresh [
      | inl h ↦ absurd (false≢true (sym (ap is_begun end.0) ∙ h.0))
      | inr h ↦ (sym h.3 ∙ end.0, end.1 ∙ h.1, end.2 ∙ h.2, end.3 ∙ h.0)
    ] in
    record {
      left = record {
        cutter = record { same_image = e.same.0 ∙ i.runs; same_limit = e.same.1 ∙ i.limit; unbegun = rw is at o.begun };
        reads = reads_ok _ (reads_then i.reads o.reads);
        told = λ models. rw (i.runs, i.reads.content models) at (e.told models);
        refused = tt;
      };
      writes = writes_as (sym (full_at_ok c.args.self.now.stage))
          (writes_ok _ (writes_then i.writes (writes_as (full_at_ok _) o.writes)));
      within = within_join _ _ _ _ _ i.writes.least e.costs.grown (rw i.limit at e.within) i.counted;
      front = λ models. front_join _ _ _ _ _ i.writes.least e.costs.grown (i.front models) (i.rest models)
          (rw (i.runs, i.reads.content models, i.limit, i.start) at (e.front models));
      made = tt;
      laid = λ models. tt;
      none = none;
      after_last = λ d. (tt, tt);
      again = λ f failed. absurd (done_unfailed _ f none.0 failed);
      costs = costs_join _ _ _ _ _ _ _ _ _ _ (rw i.runs at e.costs) i.given i.writes.least i.steps i.greatest i.calls
          i.write_calls i.turns c.tick.ensures.steps c.tick.ensures.greatest c.tick.ensures.turns;
      spent = λ models. tt;
      full = λ h says. absurd (not_full says);
      cause = tt;
    }

-- a step is refused
pub returns-in-Err : goal.returns-in-Err
returns-in-Err g c =
    let i = c.steps.invariant in
    let e = c.step.ensures.stepped in
    let o = c.in-Err.ensures.stepped in
    record {
      left = record {
        cutter = record { same_image = e.same.0 ∙ i.runs; same_limit = e.same.1 ∙ i.limit; unbegun = o.begun };
        reads = reads_err _ (reads_then i.reads o.reads);
        told = λ models. rw (i.runs, i.reads.content models) at (e.told models);
        refused = o.refused;
      };
      writes = writes_as (full_at_fresh _ _ _ i.fresh) (writes_err _ (writes_then i.writes o.writes));
      within = within_join _ _ _ _ _ i.writes.least e.costs.grown (rw i.limit at e.within) i.counted;
      front = λ models. front_join _ _ _ _ _ i.writes.least e.costs.grown (i.front models) (i.rest models)
          (rw (i.runs, i.reads.content models, i.limit, i.start) at (e.front models));
      made = tt;
      laid = λ models. tt;
      none = tt;
      after_last = search rules;
      again = search rules;
      costs = costs_join _ _ _ _ _ _ _ _ _ _ (rw i.runs at e.costs) i.given i.writes.least i.steps i.greatest i.calls
          i.write_calls i.turns c.tick.ensures.steps c.tick.ensures.greatest c.tick.ensures.turns;
      spent = λ models. tt;
      full = λ h says.
          let z = o.full (still_unfailed _ _ i.fresh h) says in
          let few = rw i.limit at z.1 in
          (z.0, omega (arith, few, i.counted, i.writes.least, e.costs.grown));
      cause = still_refused _ _ _ i.fresh (rw (i.reads.clean, i.writes.clean) at o.cause);
    }
