-- What the steps of a piece cost together: one step more, over plain numbers.
use Rattle.std.proofs.Common.{◌≡◌, ◌∙◌, ℕ, ◌+◌, ◌-◌, ◌*◌, ◌<◌, ◌≤◌, max, arith, Result, Ok, Err, true, false, inl, inr}
use Rattle.std.proofs.Common.{◌⊎◌}
use Rattle.abt_io.specs.declared.meter.Meter.{Meter}
use Rattle.abt_pieces.specs.Calls.{Devices, PieceCosts}
use Rattle.abt_pieces.specs.Step.{CutStepCosts}
use Rattle.abt_pieces.specs.Cutter.{is_begun}
use Rattle.abt_pieces.specs.declared.fault.PieceFault.{PieceFault}
use Rattle.abt_pieces.specs.declared.stage.PieceProgress.{PieceProgress}
use Rattle.abt_pieces.specs.declared.stage.PieceProgress.TheVariants as answers
use Rattle.abt_pieces.specs.declared.outline.Piece.{Piece}
use Rattle.abt_pieces.specs.declared.stage.CutterStage.{CutterStage}
use Rattle.abt_pieces.specs.declared.stage.CutterStage.TheVariants.{Between, Done, Failed}
use Rattle.abt_pieces.proofs.Stepping.{is_between}

pub steps_join : (g0 g1 g2 p0 p1 pt p2 : ℕ) → g1 + 65536 * p0 ≤ g0 + 65536 * p1 → pt ≡ p1 → p2 ≡ pt + 1 → g2 ≤ g1 +
    65536 → g2 + 65536 * p0 ≤ g0 + 65536 * p2
steps_join g0 g1 g2 p0 p1 pt p2 before tick step few = omega (arith, before, tick, step, few)

pub greatest_join : (x0 x1 xt x2 g1 g2 : ℕ) → x1 ≤ max x0 65536 → xt ≡ x1 → x2 ≡ max xt (g2 - g1) → g2 ≤ g1 + 65536 → x2
    ≤ max x0 65536
greatest_join x0 x1 xt x2 g1 g2 before tick step few = omega (arith, before, tick, step, few)

pub counted_join : (w0 w1 w2 s s' : ℕ) → w0 ≤ w1 → w1 ≤ w2 → s' ≡ s + (w2 - w1) → s ≡ w1 - w0 → s' ≡ w2 - w0
counted_join w0 w1 w2 s s' low high step before = omega (arith, low, high, step, before)

pub within_join : (w0 w1 w2 s limit : ℕ) → w0 ≤ w1 → w1 ≤ w2 → s + (w2 - w1) ≤ limit → s ≡ w1 - w0 → w2 ≤ w0 + limit
within_join w0 w1 w2 s limit low high step before = omega (arith, low, high, step, before)

pub long_join : (w0 w1 w2 s n : ℕ) → w0 ≤ w1 → w1 ≤ w2 → n ≡ s + (w2 - w1) → s ≡ w1 - w0 → w2 ≡ w0 + n
long_join w0 w1 w2 s n low high step before = omega (arith, low, high, step, before)

pub calls_join : (g0 g1 g2 w0 w1 w2 r0 r1 r2 s s' : ℕ) → g0 ≤ g1 → g1 ≤ g2 → w0 ≤ w1 → w1 ≤ w2 → r1 + 2 * s ≤ r0 + 3 *
    (g1 - g0) + 2 * (w1 - w0) + 12 → r2 ≤ r1 + (g2 - g1) + 2 → s' < s + (g2 - g1) + (w2 - w1) → r2 + 2 * s' ≤ r0 + 3 *
    (g2 - g0) + 2 * (w2 - w0) + 12
calls_join g0 g1 g2 w0 w1 w2 r0 r1 r2 s s' a b c d before step paid = omega (arith, a, b, c, d, before, step, paid)

pub writes_join : (g0 g1 g2 w0 w1 w2 r0 r1 r2 s s' : ℕ) → g0 ≤ g1 → g1 ≤ g2 → w0 ≤ w1 → w1 ≤ w2 → r1 + s ≤ r0 +
    (g1 - g0) + 2 * (w1 - w0) + 6 → r2 + w1 ≤ r1 + w2 + 1 → s' < s + (g2 - g1) + (w2 - w1) → r2 + s' ≤ r0 + (g2 - g0) +
    2 * (w2 - w0) + 6
writes_join g0 g1 g2 w0 w1 w2 r0 r1 r2 s s' a b c d before step paid = omega (arith, a, b, c, d, before, step, paid)

pub turns_join : (g0 g1 g2 w0 w1 w2 t0 t1 tt t2 s s' c1 c2 : ℕ) → g0 ≤ g1 → g1 ≤ g2 → w0 ≤ w1 → w1 ≤ w2 → t1 + 4 * s ≤
    t0 + 6 * (g1 - g0) + 5 * (w1 - w0) + c1 + 24 → tt ≡ t1 + 1 → t2 + c1 ≤ tt + 2 * (g2 - g1) + (w2 - w1) + 3 + c2 → s'
    < s + (g2 - g1) + (w2 - w1) → t2 + 4 * s' ≤ t0 + 6 * (g2 - g0) + 5 * (w2 - w0) + c2 + 24
turns_join g0 g1 g2 w0 w1 w2 t0 t1 tt t2 s s' c1 c2 a b c d before tick step paid = omega
    (arith, a, b, c, d, before, tick, step, paid)

pub words_join : (g0 g1 g2 w0 w1 w2 t0 t1 tt t2 s c1 c2 : ℕ) → g0 ≤ g1 → g1 ≤ g2 → w0 ≤ w1 → w1 ≤ w2 → t1 + 4 * s ≤ t0 +
    6 * (g1 - g0) + 5 * (w1 - w0) + c1 + 24 → tt ≡ t1 + 1 → t2 + c1 ≤ tt + 2 * (g2 - g1) + (w2 - w1) + 3 + c2 → t2 ≤ t0
    + 6 * ((g2 - g0) + (w2 - w0)) + 32 + c2
words_join g0 g1 g2 w0 w1 w2 t0 t1 tt t2 s c1 c2 a b c d before tick step = omega
    (arith, a, b, c, d, before, tick, step)

calls_most : (g0 g1 g2 w0 w1 w2 r0 r1 r2 o0 o1 o2 s : ℕ) → g0 ≤ g1 → g1 ≤ g2 → w0 ≤ w1 → w1 ≤ w2 → r1 + 2 * s ≤ r0 + 3 *
    (g1 - g0) + 2 * (w1 - w0) + 12 → o1 + s ≤ o0 + (g1 - g0) + 2 * (w1 - w0) + 6 → r2 ≤ r1 + (g2 - g1) + 2 → o2 + w1 ≤
    o1 + w2 + 1 → (r2 - r0) + (o2 - o0) ≤ 4 * ((g2 - g0) + (w2 - w0)) + 24
calls_most g0 g1 g2 w0 w1 w2 r0 r1 r2 o0 o1 o2 s a b c d reads writes step step' = omega
    (arith, a, b, c, d, reads, writes, step, step')

-- the step that ends the call, after those that went on
pub costs_join : (one words silent : ℕ) (a y z : Devices) (m m' tick m'' : Meter) → CutStepCosts words (3 * one) y z
    tick m'' → a.given ≤ y.given → a.written ≤ y.written → y.given + 65536 * m.steps.number ≤ a.given + 65536 *
    m'.steps.number → m'.greatest.number ≤ max m.greatest.number 65536
    → y.reads + 2 * silent ≤ a.reads + 3 * (y.given - a.given) + 2 * (y.written - a.written) + 12 → y.writes + silent ≤
    a.writes + (y.given - a.given) + 2 * (y.written - a.written) + 6
    → m'.turns.number + 4 * silent ≤ m.turns.number + 6 * (y.given - a.given) + 5 * (y.written - a.written) + words + 24
    → tick.steps.number ≡ m'.steps.number → tick.greatest.number ≡ m'.greatest.number → tick.turns.number ≡
    m'.turns.number + 1 → PieceCosts one a z m m''
costs_join one words silent a y z m m' tick m'' e given grown steps greatest calls writes turns same_steps same_greatest
    ticks = record {
      given = omega (arith, given, e.given);
      steps = steps_join a.given y.given z.given m.steps.number m'.steps.number tick.steps.number m''.steps.number steps
          same_steps e.steps e.received;
      greatest = greatest_join m.greatest.number m'.greatest.number tick.greatest.number m''.greatest.number y.given
          z.given
          greatest same_greatest e.greatest e.received;
      calls = calls_most a.given y.given z.given a.written y.written z.written a.reads y.reads z.reads a.writes y.writes
          z.writes silent given e.given grown e.grown calls writes e.calls e.write_calls;
      turns = words_join a.given y.given z.given a.written y.written z.written m.turns.number m'.turns.number
          tick.turns.number m''.turns.number silent words (3 * one) given e.given grown e.grown turns ticks e.turns;
    }

-- ---- where the call began

pub no_fault : {A E : Type 0} (x : A) (f : E) → ◌≡◌ {A = Result A E} (Ok x) (Err f) → ⊥
no_fault x f is = absurd cc

pub from_between : {A B C : Type 0} (start now : CutterStage) → is_begun start ≡ false →
    ((is_begun now ≡ true) × (start ≡ Between)) ⊎ (A × B × C × (now ≡ start)) → (now ≡ Done → ⊥) →
    ((f : PieceFault) → now ≡ Failed f → ⊥) → start ≡ Between
from_between start now unbegun (inl h) done failed = h.1
from_between start now unbegun (inr h) done failed = is_between start unbegun (λ d. done (h.3 ∙ d))
    (λ f d. failed f (h.3 ∙ d))

pub more_no_end : {E : Type 0} → ◌≡◌ {A = Result PieceProgress E} (Ok answers.More) (Ok answers.End) → ⊥
more_no_end is = absurd cc

pub piece_no_end : {E : Type 0} (p : Piece) → ◌≡◌ {A = Result PieceProgress E} (Ok (answers.Piece p)) (Ok answers.End) →
    ⊥
piece_no_end p is = absurd cc

pub between_undone : (st : CutterStage) → st ≡ Between → st ≡ Done → ⊥
between_undone st between done = absurd cc

pub between_unfailed : (st : CutterStage) (f : PieceFault) → st ≡ Between → st ≡ Failed f → ⊥
between_unfailed st f between failed = absurd cc
