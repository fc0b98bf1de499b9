use Rattle.std.proofs.Common.{arith, ap, ◌+◌, ◌-◌, ◌∙◌, ◌<◌, refl, sym, ◌≡◌, inl, inr}
use Rattle.std.proofs.lemmas.Bool.{false≢true}
use Rattle.abt_io.proofs.Lent.{reads_none, reads_ok, reads_then}
use Rattle.abt_pieces.proofs.Fronts.{as_many, max_most}
use Rattle.abt_pieces.proofs.Planning.{first_piece}
use Rattle.abt_pieces.proofs.Counts.{begin_bytes, entry_held, words_most, words_on}
use Rattle.abt_pieces.specs.declared.segment_tail.Tail.TheVariants as tails
use Rattle.abt_pieces.specs.declared.plan.Planner.{Planner}
use Rattle.abt_pieces.proofs.plan.plan_piece.Goals as goal

pub loop-m-init : goal.loop-m-init
loop-m-init g c =
    let e = c.begin-planner.ensures in
    let b = g.met.R.BlockRuns.bounded c.args.runs.now c.args.from c.requires.within in
    record {
      reads = reads_none _ _ _;
      sound = record {
        first = e.first;
        within = rw e.at c.requires.within;
        room = omega (arith, e.weight, c.requires.limit);
        even = e.even;
      };
      told = λ models. record {
        place = rw e.at (c.requires.told models).1;
        planned =
            let long = g.met.R.BlockRuns.long c.args.runs.now (g.S.Source.content c.args.source.now)
            (c.requires.told models).0 in
            e.planned _ _ (omega (arith, b, long));
      };
      charged = rw e.at (omega arith);
      inside = λ u. inr (rw e.at (omega arith));
      taken = rw (e.at, e.contents) (let z = begin_bytes c.args.from.block in omega arith);
      inside_taken = λ u. inr (rw (e.at, e.contents) (let z = begin_bytes c.args.from.block in omega arith));
      given = as_many _;
      received = as_many _;
      most = max_most _ _;
      calls = omega arith;
      turns = rw e.at (omega arith);
    }

pub step-requires : goal.step-requires
step-requires g c =
    let i = c.loop-m.invariant in
    record {
      ready = record {
        sound = record { first = refl; within = i.sound.within; room = i.sound.room; even = i.sound.even };
        opened = λ models. rw (i.reads.content models) (c.requires.told models).0;
        told = λ models. rw (i.reads.content models) (i.told models);
      };
    }

-- the plan goes on
pub loop-m-preserved : goal.loop-m-preserved
loop-m-preserved g c =
    let e = c.in_ok-step.ensures in
    let i = c.loop-m.invariant in
    let on = e.goes_on c.if-not-branch.true in
    let p = c.loop-m.planner in
    let runs = c.args.runs.now in
    let stuck : 0 < p.at.used → (p.tail ≡ tails.Raw) × (c.args.limit - p.weight < g.R.BlockRuns.size runs) → ⊥ =
    λ used r. false≢true (sym c.if-not-branch.true ∙ e.stuck used r.0 r.1) in
    let charged = entry_held p.at (g.S.Source.given c.loop-m.source + g.R.BlockRuns.charge runs c.args.from)
    (g.S.Source.given c.args.source.now + g.R.BlockRuns.charge runs p.at) i.charged
    (λ used. elim (i.inside used) [ inl r ↦ absurd (stuck used r) | inr le ↦ le ]) in
    let taken = entry_held p.at (p.contents.bytes + g.R.BlockRuns.taken runs c.args.from)
    (40 + g.R.BlockRuns.taken runs p.at) i.taken
    (λ used. elim (i.inside_taken used) [ inl r ↦ absurd (stuck used r) | inr le ↦ le ]) in
    let costs = e.costs in
    let calls = costs.calls in
    let turns = costs.turns in
    let tick = c.tick.ensures in
    record {
      reads = reads_ok tt (reads_then i.reads e.source.reads);
      sound = record {
        first = e.sound.first ∙ i.sound.first;
        within = e.sound.within;
        room = e.sound.room;
        even = e.sound.even;
      };
      told = λ models. rw (i.reads.content models) at (e.told models);
      charged = omega (arith, on.charged, charged);
      inside = λ used. inl (on.inside used);
      taken = omega (arith, on.takes, taken);
      inside_taken = λ used. inl (on.inside used);
      given = omega (arith, i.given, costs.given);
      received = omega (arith, i.received, costs.received, costs.one_step.steps, tick.steps);
      most = omega (arith, i.most, costs.one_step.greatest, costs.received, tick.greatest);
      calls = omega (arith, calls, i.calls, i.given, on.fetched);
      turns = omega (arith, i.turns, turns, on.words, on.fetched, i.given, tick.turns);
    }

pub loop-m-smaller : goal.loop-m-smaller
loop-m-smaller g c = (c.in_ok-step.ensures.goes_on c.if-not-branch.true).on

-- the plan goes no further
pub returns : goal.returns
returns g c =
    let e = c.in_ok-step.ensures in
    let i = c.loop-m.invariant in
    let stop = c.if-not-branch.false in
    let rest = e.rests stop in
    let costs = e.costs in
    let turns = costs.turns in
    let s = e.sound in
    let first : c.step.new.self.first ≡ c.args.from.block = s.first ∙ i.sound.first in
    let there = ap (λ (p : Planner). p.at.block) rest.still in
    let one = g.R.BlockRuns.one c.args.runs.now in
    let count = g.R.BlockRuns.count c.args.runs.now in
    let at = c.loop-m.planner.at.block in
    let p = g.met.R.BlockRuns.padded c.args.runs.now c.loop-m.planner.at in
    let most = words_most one count at in
    let on = words_on _ one count at (at + 1) 1 p.0 p.1 (λ h. omega arith) refl in
    record {
      source = record { reads = reads_ok _ (reads_then i.reads e.source.reads); cause = tt };
      sound = record { first = first; within = s.within; room = s.room; even = s.even };
      told = λ models. rw (i.reads.content models) at (e.told models);
      greatest = λ models.
          let size = g.met.R.BlockRuns.sized c.args.runs.now in
          let p = (rw (i.reads.content models) at (e.told models)).planned in
          let d = rw (i.reads.content models) at (e.ends models) in
          first_piece _ _ _ _ _ size.0 c.requires.limit (rw first at p.order) p.within
          (rw first at (rw p.weight at s.room)) (rw first at (d stop).over);
      ends = λ models. let d = rw (i.reads.content models) at (e.ends models) in d stop;
      charges = record {
        charged = omega (arith, rest.last, rest.rests.0, i.charged);
        charged_end = λ over.
            let same = rest.at_end (omega (arith, over, there)) in
            omega (arith, same, rest.rests.0, i.charged);
      };
      fresh = ap (λ (p : Planner). p.at.ask) rest.still;
      takes =
          let bytes = ap (λ (p : Planner). p.contents.bytes) rest.still in
          omega (arith, i.taken, rest.rests.1, bytes);
      costs = record {
        given = omega (arith, i.given, costs.given);
        steps = omega (arith, i.received, costs.received, costs.one_step.steps);
        greatest = omega (arith, i.most, costs.one_step.greatest, costs.received);
        calls = let calls = costs.calls in omega (arith, calls, i.calls, i.given, costs.given);
        turns = omega (arith, i.turns, turns, p.0, most, i.given, costs.given);
      };
      words = rw there (omega (arith, i.turns, turns, on, i.given, costs.given));
    }
