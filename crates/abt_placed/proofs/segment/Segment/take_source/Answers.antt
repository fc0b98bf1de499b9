use Rattle.std.proofs.Common.{◌∙◌, ◌+◌, ℕ, false, arith, refl, subst}
use Rattle.abt_placed.specs.Unfinished.{KeepsFront}
use Rattle.abt_placed.proofs.Refusing.{keeps_same, keeps_then}
use Rattle.abt_placed.proofs.Sourced.{same_told, same_ended}
use Rattle.abt_placed.proofs.Passing.{lays_still, lays_then, lays_value, lays_fault, lays_written}
use Rattle.abt_placed.proofs.Onward.{ticked}
use Rattle.abt_placed.proofs.segment.Segment.take_source.Goals as goal

pub loop-ended-preserved : goal.loop-ended-preserved
loop-ended-preserved g c =
    let i = c.loop-ended.invariant in
    let e = c.in-Ok.ensures in
    let t = c.step.ensures.lays in
    let on = c.if-ended.false in
    let r = c.args.runs.now in
    let old = g.O.Output.written c.args.output.now in
    let now = g.O.Output.written c.loop-ended.output in
    let new = g.O.Output.written c.step.new.output in
    let m = c.tick.ensures in
    record {
      lays = lays_then i.lays (lays_then {x = false} (lays_value e.lays.lays)
          (lays_written _ _ (ticked g.O.Output c.step.new.output c.step.new.m c.tick.new.self 1
          (omega (arith, m.turns)) m.steps m.greatest)));
      given = omega (arith, i.given, e.once on);
      sound = e.lays.segment.sound;
      within = e.lays.inside;
      told = same_told g.S.Source.models c.args.is_tail_raw (g.S.Source.content c.loop-ended.source)
          (g.S.Source.content c.args.source.now) r.size new c.step.new.self i.lays.content e.lays.told;
      same = (
        t.segment.same.0 ∙ i.same.0,
        t.segment.same.1 ∙ i.same.1,
        t.segment.same.2 ∙ i.same.2,
        t.segment.same.3
            ∙ i.same.3,
      );
      kept = keeps_then (c.args.self.now.placer.front + 28) old now new i.kept
          (subst (λ (j : ℕ). KeepsFront (j + 28) now new) i.same.1 t.segment.kept);
      calls = omega (arith, i.calls, e.going_calls on, i.lays.given, t.lays.given);
      turns = omega (arith, i.turns, e.going_turns on, i.lays.given, t.lays.given, m.turns);
    }

pub loop-ended-init : goal.loop-ended-init
loop-ended-init g c =
    let r = c.requires.ready in
    record {
      lays = lays_still;
      given = refl;
      sound = r.sound;
      within = r.within;
      told = r.told;
      same = (refl, refl, refl, refl);
      kept = keeps_same _ _;
      calls = omega arith;
      turns = omega arith;
    }

-- the segment goes no further
pub returns-then-ended : goal.returns-then-ended
returns-then-ended g c =
    let i = c.loop-ended.invariant in
    let e = c.in-Ok.ensures in
    let t = c.step.ensures.lays in
    let r = c.args.runs.now in
    let old = g.O.Output.written c.args.output.now in
    let now = g.O.Output.written c.loop-ended.output in
    let new = g.O.Output.written c.step.new.output in
    let x = g.S.Source.content c.loop-ended.source in
    let y = g.S.Source.content c.args.source.now in
    record {
      lays = record {
        lays = lays_value (lays_then i.lays e.lays.lays);
        told = same_told g.S.Source.models c.args.is_tail_raw x y r.size new c.step.new.self i.lays.content e.lays.told;
        segment = record {
          kept = keeps_then (c.args.self.now.placer.front + 28) old now new i.kept
              (subst (λ (j : ℕ). KeepsFront (j + 28) now new) i.same.1 t.segment.kept);
          sound = e.lays.segment.sound;
          same = (
            t.segment.same.0 ∙ i.same.0,
            t.segment.same.1 ∙ i.same.1,
            t.segment.same.2
                ∙ i.same.2,
            t.segment.same.3 ∙ i.same.3,
          );
          within = omega (arith, t.segment.within, i.same.1);
          long = λ uncut. let long = e.lays.segment.long (rw (i.same.3, i.same.0) uncut) in omega
              (arith, i.same.1, i.same.3, long);
        };
        inside = e.lays.inside;
        reads = record {
          economy = omega (arith, i.given, t.reads.economy);
          least = omega (arith, i.given, e.lays.reads.least);
          last = omega (arith, i.given, e.lays.reads.last);
        };
      };
      ended = same_ended g.S.Source.models c.args.is_tail_raw x y r.size r.blocks c.step.new.self i.lays.content
          (e.ended c.if-ended.true);
      calls = omega (arith, i.calls, c.step.ensures.calls, i.lays.given, t.lays.given);
      turns = omega (arith, i.turns, c.step.ensures.turns, i.lays.given, t.lays.given);
    }

-- a step is refused
pub returns-in-Err : goal.returns-in-Err
returns-in-Err g c =
    let i = c.loop-ended.invariant in
    let e = c.in-Err.ensures in
    let t = c.step.ensures.lays in
    let old = g.O.Output.written c.args.output.now in
    let now = g.O.Output.written c.loop-ended.output in
    let new = g.O.Output.written c.step.new.output in
    record {
      lays = record {
        lays = lays_fault (lays_then i.lays e.lays.lays);
        told = tt;
        segment = record {
          kept = keeps_then (c.args.self.now.placer.front + 28) old now new i.kept
              (subst (λ (j : ℕ). KeepsFront (j + 28) now new) i.same.1 t.segment.kept);
          sound = tt;
          same = (
            t.segment.same.0 ∙ i.same.0,
            t.segment.same.1 ∙ i.same.1,
            t.segment.same.2
                ∙ i.same.2,
            t.segment.same.3 ∙ i.same.3,
          );
          within = omega (arith, t.segment.within, i.same.1);
          long = λ uncut. let long = e.lays.segment.long (rw (i.same.3, i.same.0) uncut) in omega
              (arith, i.same.1, i.same.3, long);
        };
        inside = tt;
        reads = record {
          economy = omega (arith, i.given, t.reads.economy);
          least = tt;
          last = tt;
        };
      };
      ended = tt;
      calls = omega (arith, i.calls, c.step.ensures.calls, i.lays.given, t.lays.given);
      turns = omega (arith, i.turns, c.step.ensures.turns, i.lays.given, t.lays.given);
    }
