use Rattle.std.proofs.Common.{◌≡◌, ◌<◌, ◌≤◌, ◌+◌, ℕ, Bool, Err, refl, sym, ap, ◌∙◌, arith, inl, inr}
use Rattle.abt_pieces.specs.Fault.{CutCause}
use Rattle.abt_pieces.specs.declared.fault.PieceFault.{PieceFault}
use Rattle.abt_pieces.specs.declared.fault.PieceFault.TheVariants as cuts
use Rattle.abt_pieces.specs.Cutter.{has_more}
use Rattle.abt_pieces.specs.declared.stage.CutterStage.TheVariants.{Between, Done}
use Rattle.abt_flash.specs.Causes.{planning_fault}
use Rattle.abt_flash.specs.Delivering.{CountsTo}
use Rattle.abt_flash.specs.Going.{PlanRefused, IsBehindPiece}
use Rattle.abt_flash.proofs.Left.{none_left, one_left}
use Rattle.abt_flash.proofs.Onward.{charged_more, few_more, now_done, passed_stands, still_between, unbroken_more}
use Rattle.abt_flash.proofs.Onward.{words_more, words_most, words_one}
use Rattle.abt_flash.proofs.Records.{plan_begins}
use Rattle.abt_flash.proofs.delivering.plan_pieces.Goals as goal

pub pieces-preserved : goal.pieces-preserved
pieces-preserved g c =
    let i = c.pieces.invariant in
    let e = c.skip_piece.ensures in
    let o = c.in-Ok-Some.ensures in
    let n = g.R.BlockRuns.count c.args.cutter.now.runs in
    let one = g.R.BlockRuns.one c.args.cutter.now.runs in
    let charge = g.R.BlockRuns.charge c.args.cutter.now.runs in
    let given = g.S.Source.given in
    let s = c.pieces.cutter.start.block in
    let next = c.skip_piece.new.self.start.block in
    let st = c.skip_piece.new.self.stage in
    let is : c.pieces.cutter.stage ≡ Between =
    still_between _ _ _ _ i.unbroken (sym c.more.ensures ∙ c.if-not-more.false) in
    let passing = rw c.in-Ok-Some.field-0-is at o.passed in
    let p = passing.piece in
    let made : c.skip_piece.new.self.made ≡ c.pieces.cutter.made + 1 = p.one_more in
    let passed = rw (i.runs, p.begins, p.ends) at p.passed in
    let at : IsBehindPiece n next st = passed_stands n s next st passed in
    let left : c.pieces.cutter.made ≤ s = c.pieces.cutter.sound.left (ap has_more is) in
    let inside = i.unbroken.between is in
    let less : c.pieces.cutter.made < c.args.before = rw c.if-are_planned.false at c.are_planned.ensures in
    let words = words_more one n s next st passed.moves at in
    record {
      runs = e.left.cutter.same_image ∙ i.runs;
      limit = e.left.cutter.same_limit ∙ i.limit;
      told = λ models. rw (i.runs, i.kept models) at (e.left.told models);
      kept = λ models. e.left.reads.content models ∙ i.kept models;
      size = λ models. e.left.reads.size models ∙ i.size models;
      frame = e.left.reads.frame ∙ i.frame;
      unbroken = rw made (unbroken_more n c.pieces.cutter.made next st at);
      few = rw made (few_more n c.pieces.cutter.made s left inside);
      planned = omega (arith, made, less);
      given = omega (arith, i.given, e.costs.given);
      charged =
          let more = rw i.runs at passing.charges.charged in
          charged_more (given c.args.source.now) (given c.pieces.source) (given c.skip_piece.new.source)
          (charge c.args.cutter.now.start) (charge c.pieces.cutter.start)
          (charge c.skip_piece.new.self.start) c.pieces.cutter.made c.skip_piece.new.self.made one made more
          i.charged;
      calls = omega (arith, e.costs.calls, e.costs.given, i.calls, made);
      turns =
          let more = rw (i.runs, p.ends) at passing.words in
          let before = rw is at i.turns in
          omega (arith, more, words, before, e.costs.given, c.tick.ensures.turns, made);
      steps = omega (arith, e.costs.steps, e.costs.given, i.steps, c.tick.ensures.steps);
      greatest = omega (arith, e.costs.greatest, i.greatest, c.tick.ensures.greatest);
      faults = o.left.reads.clean ∙ i.faults;
    }

-- ---- where all have been planned

pub returns-then-are_planned-clause-planned : goal.returns-then-are_planned-clause-planned
returns-then-are_planned-clause-planned g c =
    let i = c.pieces.invariant in
    let all : c.args.before ≤ c.pieces.cutter.made = rw c.if-are_planned.true at c.are_planned.ensures in
    (still_between _ _ _ _ i.unbroken (sym c.more.ensures ∙ c.if-not-more.false), omega (arith, all, i.planned))

pub returns-then-are_planned-clause-charged : goal.returns-then-are_planned-clause-charged
returns-then-are_planned-clause-charged g c =
    let i = c.pieces.invariant in
    let all : c.args.before ≤ c.pieces.cutter.made = rw c.if-are_planned.true at c.are_planned.ensures in
    let same : c.pieces.cutter.made ≡ c.args.before = omega (arith, all, i.planned) in
    let charged = rw same at i.charged in
    omega (arith, charged)

pub returns-then-are_planned-clause-costs : goal.returns-then-are_planned-clause-costs
returns-then-are_planned-clause-costs g c =
    let i = c.pieces.invariant in
    let all : c.args.before ≤ c.pieces.cutter.made = rw c.if-are_planned.true at c.are_planned.ensures in
    let same : c.pieces.cutter.made ≡ c.args.before = omega (arith, all, i.planned) in
    let words = words_most (g.R.BlockRuns.one c.args.cutter.now.runs)
    (g.R.BlockRuns.count c.args.cutter.now.runs) c.pieces.cutter.start.block c.pieces.cutter.stage
    i.unbroken.stands in
    record {
      begun = c.args.before;
      counted = refl;
      calls = omega (arith, i.calls, same);
      turns = omega (arith, i.turns, words, same, c.tick.ensures.turns);
      read = i.given;
      steps =
          omega (arith, i.steps, c.tick.ensures.steps);
      greatest = omega (arith, i.greatest, c.tick.ensures.greatest);
    }

pub returns-then-not-more-clause-costs : goal.returns-then-not-more-clause-costs
returns-then-not-more-clause-costs g c =
    let i = c.pieces.invariant in
    let words = words_most (g.R.BlockRuns.one c.args.cutter.now.runs)
    (g.R.BlockRuns.count c.args.cutter.now.runs) c.pieces.cutter.start.block c.pieces.cutter.stage
    i.unbroken.stands in
    let calls = i.calls in
    let turns = i.turns in
    record {
      begun = c.pieces.cutter.made;
      counted = refl;
      calls = omega (arith, calls);
      turns = omega (arith, turns, words);
      read = i.given;
      steps = omega (arith, i.steps, c.tick.ensures.steps);
      greatest = omega (arith, i.greatest, c.tick.ensures.greatest);
    }

pub returns-in-Err-clause-costs : goal.returns-in-Err-clause-costs
returns-in-Err-clause-costs g c =
    let i = c.pieces.invariant in
    let b = g.R.BlockRuns.size c.args.cutter.now.runs in
    let all = g.R.BlockRuns.list c.args.cutter.now.runs (g.S.Source.content c.args.source.now) in
    let is : c.pieces.cutter.stage ≡ Between =
    still_between _ _ _ _ i.unbroken (sym c.more.ensures ∙ c.if-not-more.false) in
    let words = words_one (g.R.BlockRuns.one c.args.cutter.now.runs)
    (g.R.BlockRuns.count c.args.cutter.now.runs) c.pieces.cutter.start.block c.pieces.cutter.stage is in
    let calls = i.calls in
    let turns = i.turns in
    let more_calls = c.skip_piece.ensures.costs.calls in
    let more_turns = rw i.runs at c.skip_piece.ensures.costs.turns in
    let given = c.skip_piece.ensures.costs.given in
    let tick = c.tick.ensures.turns in
    record {
      begun = c.pieces.cutter.made;
      counted = rw c.not_planned.ensures (plan_begins c.in-Err.fault _ _ _ _ i.planned
          (λ models. let z = one_left c.args.cutter.now.limit b all c.pieces.cutter.made c.pieces.cutter.start.block
          (rw (i.limit, is) at (i.told models).cuts) in omega (arith, z)));
      calls = omega (arith, calls, more_calls, given, i.given);
      turns = omega (arith, turns, words, more_turns, given, tick, i.given);
      read = omega (arith, i.given, given);
      steps = omega (arith, i.steps, c.skip_piece.ensures.costs.steps, given, c.tick.ensures.steps);
      greatest = omega (arith, i.greatest, c.skip_piece.ensures.costs.greatest, c.tick.ensures.greatest);
    }

-- ---- why planning is refused

plan_refused : (e : PieceFault) (before : ℕ) (models : Bool) (r r' : ℕ) → CutCause e models r r' 0 0
    → PlanRefused (planning_fault e) before models r r'
plan_refused (cuts.Read d) before models r r' h = h
plan_refused (cuts.Write d) before models r r' h = absurd (omega (arith, h))
plan_refused cuts.SourceChanged before models r r' h = h
plan_refused cuts.TooLarge before models r r' h = absurd h
plan_refused (cuts.BadBlock n) before models r r' h = absurd h
plan_refused (cuts.LimitTooSmall n) before models r r' h = absurd h

plan_counts : (e : PieceFault) (before k : ℕ) → CountsTo (Err (planning_fault e)) before k
plan_counts (cuts.Read d) before k = tt
plan_counts (cuts.Write d) before k = tt
plan_counts cuts.SourceChanged before k = tt
plan_counts cuts.TooLarge before k = tt
plan_counts (cuts.BadBlock n) before k = tt
plan_counts (cuts.LimitTooSmall n) before k = tt

pub returns-in-Err-clause-refused : goal.returns-in-Err-clause-refused
returns-in-Err-clause-refused g c =
    let i = c.pieces.invariant in
    let is : c.pieces.cutter.stage ≡ Between =
    still_between _ _ _ _ i.unbroken (sym c.more.ensures ∙ c.if-not-more.false) in
    let faults = i.faults in
    let cause : CutCause c.in-Err.fault g.S.Source.models (g.S.Source.read_faults c.pieces.source)
    (g.S.Source.read_faults c.skip_piece.new.source) 0 0 = elim c.in-Err.ensures.cause [
      | inl failed ↦ absurd (let z = sym is ∙ failed in cc)
      | inr h ↦ h
    ] in
    rw c.not_planned.ensures (plan_refused c.in-Err.fault _ _ _ _ (rw faults at cause))

pub returns-in-Err-clause-counted : goal.returns-in-Err-clause-counted
returns-in-Err-clause-counted g c models = rw c.not_planned.ensures (plan_counts c.in-Err.fault _ _)

pub returns-then-not-more-clause-refused : goal.returns-then-not-more-clause-refused
returns-then-not-more-clause-refused g c =
    let i = c.pieces.invariant in
    ((i.unbroken.done (now_done _ _ _ _ i.unbroken (sym c.more.ensures ∙ c.if-not-more.true))).0, i.planned)

pub returns-then-not-more-clause-counted : goal.returns-then-not-more-clause-counted
returns-then-not-more-clause-counted g c models =
    let i = c.pieces.invariant in
    let b = g.R.BlockRuns.size c.args.cutter.now.runs in
    let all = g.R.BlockRuns.list c.args.cutter.now.runs (g.S.Source.content c.args.source.now) in
    let is : c.pieces.cutter.stage ≡ Done = now_done _ _ _ _ i.unbroken (sym c.more.ensures ∙ c.if-not-more.true) in
    none_left c.args.cutter.now.limit b all c.pieces.cutter.made c.pieces.cutter.start.block
    (rw (i.limit, is) at (i.told models).cuts)

pub returns-then-are_planned-clause-inside : goal.returns-then-are_planned-clause-inside
returns-then-are_planned-clause-inside g c =
    let i = c.pieces.invariant in
    i.unbroken.between (still_between _ _ _ _ i.unbroken (sym c.more.ensures ∙ c.if-not-more.false))

-- ---- the source

pub returns-then-are_planned-clause-source : goal.returns-then-are_planned-clause-source
returns-then-are_planned-clause-source g c =
    let i = c.pieces.invariant in
    record { content = i.kept; size = i.size; frame = i.frame; faults = omega (arith, i.faults); clean = i.faults }

pub returns-then-not-more-clause-source : goal.returns-then-not-more-clause-source
returns-then-not-more-clause-source g c =
    let i = c.pieces.invariant in
    record { content = i.kept; size = i.size; frame = i.frame; faults = omega (arith, i.faults); clean = tt }

pub returns-in-Err-clause-source : goal.returns-in-Err-clause-source
returns-in-Err-clause-source g c =
    let i = c.pieces.invariant in
    let s = c.skip_piece.ensures in
    record {
      content = λ models. s.left.reads.content models ∙ i.kept models;
      size = λ models.
          s.left.reads.size models ∙ i.size models;
      frame = s.left.reads.frame ∙ i.frame;
      faults =
          omega (arith, i.faults, s.left.reads.faults);
      clean = tt;
    }

-- ---- what planning a piece asks for

pub skip_piece-requires-clause-ready : goal.skip_piece-requires-clause-ready
skip_piece-requires-clause-ready g c =
    let i = c.pieces.invariant in
    record {
      opened = λ models. rw (i.runs, i.kept models) (c.requires.ready.opened models);
      told = λ models. rw (i.runs, i.kept models) (i.told models);
    }
