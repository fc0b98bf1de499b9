use Rattle.std.proofs.Common.{arith, sym, ◌∙◌, ◌≡◌, ◌+◌, ◌-◌, ◌*◌, ◌<◌, ap, refl, inl, inr}
use Rattle.std.proofs.lemmas.Bool.{false≢true}
use Rattle.abt_io.proofs.Lent.{reads_err, reads_none, reads_ok, reads_then}
use Rattle.abt_runs.specs.declared.part.Cursor.{Cursor}
use Rattle.abt_pieces.specs.Fault.{full_in_cut}
use Rattle.abt_pieces.specs.declared.fault.PieceFault.{PieceFault}
use Rattle.abt_pieces.specs.declared.plan.Planner.{Planner}
use Rattle.abt_pieces.specs.declared.stage.CutterStage.TheVariants.{Failed}
use Rattle.abt_pieces.proofs.Fronts.{not_told, run_causes, run_not_full}
use Rattle.abt_pieces.proofs.Planning.{first_piece}
use Rattle.abt_pieces.proofs.Cutting.{moves}
use Rattle.abt_pieces.proofs.Counts.{entry_held, words_top}
use Rattle.abt_pieces.specs.declared.segment_tail.Tail.TheVariants as tails
use Rattle.abt_pieces.proofs.Stepping.{planned_some, plan_covers}
use Rattle.abt_pieces.proofs.SpendingStages.{plan_ends}
use Rattle.abt_pieces.proofs.WriterSteps.{part_words}
use Rattle.abt_pieces.proofs.cutter.Cutter.plan.Goals as goal

pub step-requires : goal.step-requires
step-requires g c =
    let r = c.requires.ready in
    record {
      ready = record {
        sound = record { first = refl; within = r.sound.within; room = r.sound.room; even = r.sound.even };
        opened = r.opened;
        told = r.planned;
      };
    }

-- the plan goes on
pub returns-in-Ok-false : goal.returns-in-Ok-false
returns-in-Ok-false g c =
    let a = c.step.ensures in
    let e = c.in-Ok-false.ensures in
    let test = c.in-Ok-false.field-0-test in
    let on = e.goes_on test in
    let ready = c.requires.ready in
    let from = c.args.from in
    let start = c.args.self.now.start in
    let r = c.args.self.now.runs in
    let charge = g.R.BlockRuns.charge r in
    let size = g.R.BlockRuns.size r in
    let stuck : 0 < from.at.used → (from.tail ≡ tails.Raw) × (c.args.self.now.limit - from.weight < size) → ⊥ =
    λ used h. false≢true (sym test ∙ e.stuck used h.0 h.1) in
    let taken = entry_held from.at (from.contents.bytes + g.R.BlockRuns.taken r start)
    (40 + g.R.BlockRuns.taken r from.at) ready.taken.most (λ used. ready.taken.inside used (stuck used)) in
    let p = g.met.R.BlockRuns.padded r from.at in
    let top = words_top _ _ _ _ p.0 p.1 in
    let turns = a.costs.turns in
    record {
      keeps = record { runs = refl; rest = (refl, refl, refl); refused = tt };
      source = record { reads = reads_ok _ e.source.reads; cause = tt };
      goes_on = record {
        begun = (refl, refl);
        sound = record {
          first = e.sound.first ∙ ready.sound.first;
          within = e.sound.within;
          room = e.sound.room;
          even = e.sound.even;
        };
        comes = λ t h. h;
        left = omega (arith, on.on);
        taken = record {
          most = omega (arith, on.takes, taken);
          inside = λ used little. absurd (little (on.inside used));
        };
        paid = omega (arith, on.fetched);
        words = omega (arith, turns, on.words);
      };
      told = λ models. e.told models;
      coming = λ models. refl;
      spends = λ t h.
          let charged = entry_held from.at t
          (charge from.at + (2 * charge start + g.R.BlockRuns.copied r start)) h.most
          (λ used. elim (h.inside used) [ inl z ↦ absurd (stuck used z) | inr le ↦ le ]) in
          record {
            low = omega (arith, h.low);
            copies = omega (arith, h.copies, e.onward);
            most = omega (arith, on.charged, charged, a.costs.given);
            inside = λ used. inl (on.inside used);
          };
      costs = part_words a.costs (omega (arith, top));
      unwritten = refl;
    }

pub invariant_of-self : goal.invariant_of-self
invariant_of-self g c =
    let s = c.args.self.now.sound in
    let ready = c.requires.ready in
    let rest = c.in-Ok-true.ensures.rests c.in-Ok-true.field-0-test in
    let o = c.in-Ok.ensures in
    let f : c.step.new.self.first ≡ c.args.self.now.start.block = c.step.ensures.sound.first ∙ ready.sound.first in
    record {
      sound = record {
        granted = s.granted;
        within = s.within;
        few = s.few;
        left = λ more. ready.few;
        stage = rw f at o.sound;
        taken =
            let next = ap (g.R.BlockRuns.taken c.args.self.now.runs) o.next.0 in
            let bytes = ap (λ (p : Planner). p.contents.bytes) rest.still in
            omega (arith, next, bytes, o.longer, rest.rests.1, ready.taken.most);
      };
    }

-- the piece is planned
pub returns-in-Ok : goal.returns-in-Ok
returns-in-Ok g c =
    let a = c.step.ensures in
    let e = c.in-Ok-true.ensures in
    let test = c.in-Ok-true.field-0-test in
    let rest = e.rests test in
    let still = rest.still in
    let rests = rest.rests in
    let o = c.in-Ok.ensures in
    let n = o.next in
    let size = g.met.R.BlockRuns.sized c.args.self.now.runs in
    let f : c.step.new.self.first ≡ c.args.self.now.start.block = a.sound.first ∙ c.requires.ready.sound.first in
    let p = g.met.R.BlockRuns.padded c.args.self.now.runs c.args.from.at in
    let top = words_top _ _ _ _ p.0 p.1 in
    let turns = a.costs.turns in
    let past : c.in-Ok.outline.piece.past ≡ c.args.from.at.block = n.1 ∙ ap (λ (q : Planner). q.at.block) still in
    record {
      keeps = record { runs = refl; rest = (refl, refl, refl); refused = tt };
      source = record { reads = reads_ok _ e.source.reads; cause = tt };
      goes_on = record {
        begun = (refl, refl);
        sound = rw f at o.sound;
        comes = λ t h. h;
        left = let z = planned_some (g.R.BlockRuns.left c.args.self.now.runs) c.args.self.now.start in omega (arith, z);
        taken =
            let next = ap (g.R.BlockRuns.taken c.args.self.now.runs) n.0 in
            let bytes = ap (λ (p : Planner). p.contents.bytes) still in
            omega (arith, next, bytes, o.longer, rests.1, c.requires.ready.taken.most);
        paid = omega (arith, a.costs.given);
        words = let z = plan_covers _ _ _ _ p.0 p.1 in rw past (omega (arith, turns, z));
      };
      told = λ models.
          let x = c.requires.ready.opened models in
          let p = (e.told models).planned in
          let ends = e.ends models test in
          let exact = o.exact in
          record {
            exact = exact _ (g.met.R.BlockRuns.long c.args.self.now.runs _ x)
                (g.met.R.BlockRuns.are_blocks c.args.self.now.runs _ x) p;
            greatest = rw n.1 (first_piece _ _ _ _ _ size.0 c.args.self.now.sound.granted (rw f at p.order) p.within
                (rw f at (rw p.weight at e.sound.room)) (rw f at ends.over));
            place = rw n.0 (e.told models).place;
          };
      coming = λ models. refl;
      spends = λ t h.
          let fresh : c.in-Ok.outline.next.ask ≡ 1 = ap (λ (x : Cursor). x.ask) (n.0 ∙ ap (λ (q : Planner). q.at) still)
          in
          let charges = rw (sym n.0) at rests.0 in
          let copies = rw (sym n.0) at e.onward in
          plan_ends _ _ _ _ _ _ c.args.self.now.start t _ _ c.args.from c.in-Ok.outline e.costs.given rest.last
          (λ over. rest.at_end (omega (arith, over, past))) charges copies fresh h;
      costs = part_words a.costs (omega (arith, top));
      unwritten = refl;
    }

-- the image ended before its blocks did
pub returns-in-Err-planned : goal.returns-in-Err-planned
returns-in-Err-planned g c =
    let a = c.step.ensures in
    let e = c.in-Ok-true.ensures in
    let x = c.fail.ensures in
    let r = c.in-Err-planned.ensures.refused in
    let size = g.met.R.BlockRuns.sized c.args.self.now.runs in
    let p = g.met.R.BlockRuns.padded c.args.self.now.runs c.args.from.at in
    let top = words_top _ _ _ _ p.0 p.1 in
    record {
      keeps = record {
        runs = x.rest.0;
        rest = (x.rest.1, x.rest.2, x.rest.3);
        refused = x.stage ∙ ap (λ (f : PieceFault). Failed f) (sym x.fault);
      };
      source = record {
        reads = reads_then e.source.reads (reads_none _ _ _);
        cause = rw (x.fault, r.0) (not_told _ (λ models.
            let long = g.met.R.BlockRuns.long c.args.self.now.runs _ (c.requires.ready.opened models) in
            moves _ _ _ c.step.new.self size.0 c.args.self.now.sound.granted (e.ends models c.in-Ok-true.field-0-test)
            r.1 (rw long r.2)));
      };
      goes_on = tt;
      told = λ models. tt;
      coming = λ models. tt;
      spends = λ t h. tt;
      costs = part_words a.costs (omega (arith, top));
      unwritten = ap (λ (f : PieceFault). full_in_cut f) (x.fault ∙ r.0);
    }

-- the source has failed
pub returns-in-Err : goal.returns-in-Err
returns-in-Err g c =
    let a = c.step.ensures in
    let x = c.fail-in-Err.ensures in
    let p = g.met.R.BlockRuns.padded c.args.self.now.runs c.args.from.at in
    let top = words_top _ _ _ _ p.0 p.1 in
    record {
      keeps = record {
        runs = x.rest.0;
        rest = (x.rest.1, x.rest.2, x.rest.3);
        refused = x.stage ∙ ap (λ (f : PieceFault). Failed f) (sym x.fault);
      };
      source = record {
        reads = reads_err _ c.in-Err.ensures.source.reads;
        cause = run_causes _ _ _ _ _ _ _ (x.fault ∙ c.run_fault.ensures) c.in-Err.ensures.source.cause;
      };
      goes_on = tt;
      told = λ models. tt;
      coming = λ models. tt;
      spends = λ t h. tt;
      costs = part_words a.costs (omega (arith, top));
      unwritten = ap (λ (f : PieceFault). full_in_cut f) (x.fault ∙ c.run_fault.ensures) ∙ run_not_full c.in-Err.fault;
    }
