use Rattle.std.proofs.Common.{length, drop, ◌≡◌, ◌*◌, ◌+◌, ◌-◌, ◌++◌, ◌∙◌, arith, refl, subst, true, false, ℕ, ◌/◌}
use Rattle.std.proofs.Common.{nat_lt}
use Rattle.std.proofs.lemmas.Bool.{ltb-true, ltb-false}
use Rattle.abt_runs.proofs.Tailed.{alike_all}
use Rattle.abt_placed.specs.Placed.{classes}
use Rattle.abt_placed.specs.Segment.{LaidSegment, OneMoreExceeds}
use Rattle.abt_placed.specs.Unfinished.{KeepsFront}
use Rattle.abt_placed.specs.Whole.{taken}
use Rattle.abt_placed.proofs.Numbers.{blocks_fit}
use Rattle.abt_placed.proofs.Costs.{look_costs, look_some, more_blocks, sound_within, wider, no_further}
use Rattle.abt_placed.proofs.Laying.{part_classes}
use Rattle.abt_placed.proofs.Refusing.{keeps_then}
use Rattle.abt_placed.proofs.Segments.{window_over, more_laid, kind_held}
use Rattle.abt_placed.proofs.Onward.{ticked, onward, succeeds, at_most}
use Rattle.abt_placed.proofs.segment.Segment.take_fitting.Goals as goal

pub part-requires-clause-bound : goal.part-requires-clause-bound
part-requires-clause-bound g c = blocks_fit c.loop-done.done c.of_one_way-cap.result c.args.blocks c.args.size
    (omega arith) c.requires.window

pub part-requires-in-loop-done-clause-bound : goal.part-requires-in-loop-done-clause-bound
part-requires-in-loop-done-clause-bound g c = blocks_fit c.loop-done.done c.leading-kind.result.1 c.args.blocks
    c.args.size (omega arith) c.requires.window

pub loop-done-preserved : goal.loop-done-preserved
loop-done-preserved g c =
    let i = c.loop-done.invariant in
    let e = c.in-Ok.ensures in
    let t = c.take_part.ensures in
    let on = c.if-ended.false in
    let n = c.leading-kind.result.1 in
    let d = c.loop-done.done in
    let b = c.args.size in
    let look = look_costs n b c.tick.new.self.turns.number c.leading-kind.new.m.turns.number
    c.loop-done.m.turns.number c.leading-kind.ensures.some c.requires.size.words c.leading-kind.ensures.looked
    c.tick.ensures.turns in
    let some = look_some n b c.leading-kind.ensures.some in
    let all : (d + n) * (b / 2 + 17) ≡ d * (b / 2 + 17) + n * (b / 2 + 17) = omega arith in
    let same = part_classes c.leading-kind.result.0 b (c.args.classed - d) n (d * b)
    (d * b + c.of_one_way-cap.result * b) (d * b + n * b) c.args.w.now.bytes c.part.result.now
    c.part-in-loop-done.result.now (let m = more_blocks 0 n c.of_one_way-cap.result b
    (omega (arith, c.leading-kind.ensures.within)) in omega
    (arith, m)) (omega arith) c.part.ensures.value
    c.part-in-loop-done.ensures.value
    (alike_all c.leading-kind.result.0 c.args.size
    c.leading-kind.result.1
    (c.args.classed - c.loop-done.done)
    c.part.result.now (nat_lt 0
    c.saturating_sub-whole.result)
    (λ is. let y = ltb-true 0 c.saturating_sub-whole.result is in let z = c.of_one_way-cap.ensures.within y in omega (
      arith,
      z,
      c.saturating_sub-whole.ensures,
      c.leading-kind.ensures.within,
    ))
    (λ is. let y = ltb-false 0 c.saturating_sub-whole.result is in omega (arith, y, c.saturating_sub-whole.ensures))
    c.leading-kind.ensures.all c.leading-kind.ensures.raw) in
    record {
      within = omega arith;
      sound = e.segment.sound;
      laid = λ f p. more_laid b c.args.classed d n (d * b) (d * b + n * b) f c.args.w.now.bytes
          c.part-in-loop-done.result.now (g.O.Output.written c.take_part.new.output) c.take_part.new.self refl
          (omega arith) c.part-in-loop-done.ensures.value
          (e.laid (f ++ classes b c.args.classed d c.args.w.now.bytes) (c.args.classed - d) same (i.laid f p)
          on);
      passed = omega (arith, e.passed on, i.passed);
      same = (
        t.segment.same.0 ∙ i.same.0,
        t.segment.same.1 ∙ i.same.1,
        t.segment.same.2 ∙ i.same.2,
        t.segment.same.3
            ∙ i.same.3,
      );
      writes = succeeds (at_most (onward (onward i.writes (ticked g.O.Output c.loop-done.output c.loop-done.m
          c.leading-kind.new.m (n * (b / 2 + 17) - 14) look (c.leading-kind.ensures.no_step.steps
          ∙ c.tick.ensures.steps) (c.leading-kind.ensures.no_step.greatest ∙ c.tick.ensures.greatest))) e.writes)
          (omega (arith, c.leading-kind.ensures.some)) (omega (arith, all, some)));
      kept = keeps_then (c.args.self.now.placer.front + 28) (g.O.Output.written c.args.output.now)
          (g.O.Output.written c.loop-done.output) (g.O.Output.written c.take_part.new.output) i.kept
          (subst (λ (j : ℕ). KeepsFront (j + 28) (g.O.Output.written c.loop-done.output)
          (g.O.Output.written c.take_part.new.output)) i.same.1 t.segment.kept);
    }

-- the next blocks don't fit
pub returns-then-ended : goal.returns-then-ended
returns-then-ended g c =
    let i = c.loop-done.invariant in
    let e = c.in-Ok.ensures in
    let t = c.take_part.ensures in
    let on = c.if-ended.true in
    let st = (e.over on).still in
    let s = c.loop-done.self in
    let w = c.args.w.now.bytes in
    let b = c.args.size in
    let d = c.loop-done.done in
    let n = c.leading-kind.result.1 in
    let a = c.args.blocks in
    let old = g.O.Output.written c.args.output.now in
    let now = g.O.Output.written c.loop-done.output in
    let new = g.O.Output.written c.take_part.new.output in
    let z : d ≡ taken s.placer - taken c.args.self.now.placer = omega (arith, i.passed) in
    let look = look_costs n b c.tick.new.self.turns.number c.leading-kind.new.m.turns.number
    c.loop-done.m.turns.number c.leading-kind.ensures.some c.requires.size.words c.leading-kind.ensures.looked
    c.tick.ensures.turns in
    let some = look_some n b c.leading-kind.ensures.some in
    let more = more_blocks c.loop-done.done n c.args.blocks (b / 2 + 17) (omega arith) in
    record {
      segment = record {
        kept = keeps_then (c.args.self.now.placer.front + 28) old now new i.kept
            (subst (λ (j : ℕ). KeepsFront (j + 28) now new) i.same.1 t.segment.kept);
        sound = e.segment.sound;
        same = (
          t.segment.same.0 ∙ i.same.0,
          t.segment.same.1 ∙ i.same.1,
          t.segment.same.2
              ∙ i.same.2,
          t.segment.same.3 ∙ i.same.3,
        );
        within = wider c.args.self.now.placer.front s.placer.front (taken c.args.self.now.placer) (taken s.placer) d n
            a (length new) b i.same.1 i.passed (omega arith) t.segment.within;
        long = λ uncut. let long = e.segment.long (rw (i.same.3, i.same.0) uncut) in omega
            (arith, long, i.same.1, i.same.3);
      };
      laid = λ f p. rw (st.0, st.1) (subst (λ (m : ℕ). LaidSegment b (f ++ classes b c.args.classed m w) now s) z
          (i.laid f p));
      order = rw st.0 (omega (arith, i.passed));
      all = λ is. absurd (let y : true ≡ false = is in cc);
      short = λ is. rw st.0 (omega (arith, i.passed, c.loop-done-test.true));
      some = λ is. rw st.0 (omega (arith, (e.over on).some, i.same.2));
      over = λ f p is.
          let all = part_classes c.leading-kind.result.0 b (c.args.classed - d) n (d * b)
          (d * b + c.of_one_way-cap.result * b) (d * b + n * b) w c.part.result.now
          c.part-in-loop-done.result.now (let m = more_blocks 0 n c.of_one_way-cap.result b
          (omega (arith, c.leading-kind.ensures.within)) in omega
          (arith, m)) (omega arith) c.part.ensures.value
          c.part-in-loop-done.ensures.value
          (alike_all c.leading-kind.result.0 c.args.size
          c.leading-kind.result.1
          (c.args.classed - c.loop-done.done)
          c.part.result.now (nat_lt 0
          c.saturating_sub-whole.result)
          (λ is. let y = ltb-true 0 c.saturating_sub-whole.result is in let z = c.of_one_way-cap.ensures.within y in
          omega (arith, z, c.saturating_sub-whole.ensures, c.leading-kind.ensures.within))
          (λ is. let y = ltb-false 0 c.saturating_sub-whole.result is in omega
          (arith, y, c.saturating_sub-whole.ensures)) c.leading-kind.ensures.all
          c.leading-kind.ensures.raw) in
          let o = window_over b c.args.classed d n a (d * b) (d * b + n * b) f w c.part-in-loop-done.result.now now s
          _ c.leading-kind.result.0 c.requires.size.some c.leading-kind.ensures.some (omega arith) refl
          (omega arith) c.part-in-loop-done.ensures.value i.sound (i.laid f p) all
          (omega (
            arith,
            c.leading-kind.ensures.within,
            c.of_one_way-cap.ensures.few,
            c.min-most.ensures,
            c.cap.ensures.cap,
          )) (e.over on).over in
          let o' = subst (λ (m : ℕ). OneMoreExceeds m b (f ++ classes b c.args.classed d w)
          (drop d (classes b c.args.classed a w))) i.same.3 o in
          rw st.0 (subst (λ (m : ℕ). OneMoreExceeds c.args.self.now.limit b (f ++ classes b c.args.classed m w)
          (drop m (classes b c.args.classed a w))) z o');
      reached = λ is. no_further _ c.args.self.now.limit (taken s.placer) (taken c.args.self.now.placer) d n a b
          i.same.3 i.passed (omega arith) ((e.over on).reached);
      writes = succeeds (at_most (onward (onward i.writes (ticked g.O.Output c.loop-done.output c.loop-done.m
          c.leading-kind.new.m (n * (b / 2 + 17) - 14) look (c.leading-kind.ensures.no_step.steps
          ∙ c.tick.ensures.steps) (c.leading-kind.ensures.no_step.greatest ∙ c.tick.ensures.greatest))) e.writes)
          (omega (arith, c.leading-kind.ensures.some)) (omega (arith, more, some)));
    }

-- blocks are not written
pub returns-in-Err : goal.returns-in-Err
returns-in-Err g c =
    let i = c.loop-done.invariant in
    let e = c.in-Err.ensures in
    let t = c.take_part.ensures in
    let b = c.args.size in
    let n = c.leading-kind.result.1 in
    let old = g.O.Output.written c.args.output.now in
    let now = g.O.Output.written c.loop-done.output in
    let new = g.O.Output.written c.take_part.new.output in
    let s = c.loop-done.self in
    let look = look_costs n b c.tick.new.self.turns.number c.leading-kind.new.m.turns.number
    c.loop-done.m.turns.number c.leading-kind.ensures.some c.requires.size.words c.leading-kind.ensures.looked
    c.tick.ensures.turns in
    let some = look_some n b c.leading-kind.ensures.some in
    let more = more_blocks c.loop-done.done n c.args.blocks (b / 2 + 17) (omega arith) in
    record {
      segment = record {
        kept = keeps_then (c.args.self.now.placer.front + 28) old now new i.kept
            (subst (λ (j : ℕ). KeepsFront (j + 28) now new) i.same.1 t.segment.kept);
        sound = tt;
        same = (
          t.segment.same.0 ∙ i.same.0,
          t.segment.same.1 ∙ i.same.1,
          t.segment.same.2
              ∙ i.same.2,
          t.segment.same.3 ∙ i.same.3,
        );
        within = wider c.args.self.now.placer.front s.placer.front (taken c.args.self.now.placer) (taken s.placer)
            c.loop-done.done n c.args.blocks (length new) b i.same.1 i.passed (omega arith) t.segment.within;
        long = λ uncut. let long = e.segment.long (rw (i.same.3, i.same.0) uncut) in omega
            (arith, long, i.same.1, i.same.3);
      };
      laid = λ f p. tt;
      order = tt;
      all = tt;
      short = tt;
      some = tt;
      over = λ f p. tt;
      reached = tt;
      writes = at_most (onward (onward i.writes (ticked g.O.Output c.loop-done.output c.loop-done.m
          c.leading-kind.new.m (n * (b / 2 + 17) - 14) look (c.leading-kind.ensures.no_step.steps
          ∙ c.tick.ensures.steps) (c.leading-kind.ensures.no_step.greatest ∙ c.tick.ensures.greatest))) e.writes)
          (omega (arith, c.leading-kind.ensures.some)) (omega (arith, more, some));
    }

-- all fit
pub returns : goal.returns
returns g c =
    let i = c.loop-done.invariant in
    let w = c.args.w.now.bytes in
    let s = c.loop-done.self in
    let b = c.args.size in
    let y : c.loop-done.done ≡ c.args.blocks = omega arith in
    let z : c.loop-done.done ≡ taken c.loop-done.self.placer - taken c.args.self.now.placer = omega (arith, i.passed) in
    record {
      segment = record {
        kept = i.kept;
        sound = i.sound;
        same = i.same;
        within = wider c.args.self.now.placer.front s.placer.front (taken c.args.self.now.placer) (taken s.placer)
            c.loop-done.done 0 c.args.blocks _ b i.same.1 i.passed (omega arith)
            (let w = sound_within b _ s.placer i.sound.placer in omega (arith, w));
        long = λ uncut. let fits = i.sound.fits (rw (i.same.3, i.same.0) uncut) in omega
            (arith, fits, i.sound.room, i.same.1, i.same.3);
      };
      laid = λ f p. subst (λ (n : ℕ). LaidSegment b (f ++ classes b c.args.classed n w)
          (g.O.Output.written c.loop-done.output) c.loop-done.self) z (i.laid f p);
      order = omega (arith, i.passed);
      all = λ is. rw y at i.passed;
      short = λ is. absurd (let x : false ≡ true = is in cc);
      some = λ is. absurd (let x : false ≡ true = is in cc);
      over = λ f p is. absurd (let x : false ≡ true = is in cc);
      reached = λ is. absurd (let x : false ≡ true = is in cc);
      writes = rw y at i.writes;
    }

pub overflow_add-past : goal.overflow_add-past
overflow_add-past g c = let f = blocks_fit c.loop-done.done c.leading-kind.result.1 c.args.blocks c.args.size
    (omega arith) c.requires.window in omega (arith, f)

pub take_part-requires-clause-part : goal.take_part-requires-clause-part
take_part-requires-clause-part g c =
    let l = c.leading-kind.ensures in
    record {
      some = l.some;
      goes = l.goes;
      bytes = omega (arith, c.part-in-loop-done.ensures.long);
      window = let f = blocks_fit c.loop-done.done c.leading-kind.result.1 c.args.blocks c.args.size (omega arith)
          c.requires.window in omega (arith, f, c.part-in-loop-done.ensures.long);
      words = c.requires.size.some;
      held =
          let from = c.loop-done.done * c.args.size in
          let n = c.leading-kind.result.1 in
          let b = c.args.size in
          let m = more_blocks 0 n c.of_one_way-cap.result b (omega (arith, c.leading-kind.ensures.within)) in
          kind_held b (c.args.classed - c.loop-done.done) n c.part-in-loop-done.result.now c.leading-kind.result.0
          l.some
          (part_classes c.leading-kind.result.0 b (c.args.classed - c.loop-done.done) n from
          (from + c.of_one_way-cap.result * b) (from + n * b) c.args.w.now.bytes c.part.result.now
          c.part-in-loop-done.result.now (omega (arith, m)) (omega arith) c.part.ensures.value
          c.part-in-loop-done.ensures.value (alike_all c.leading-kind.result.0 c.args.size
          c.leading-kind.result.1 (c.args.classed - c.loop-done.done) c.part.result.now
          (nat_lt 0 c.saturating_sub-whole.result)
          (λ is. let y = ltb-true 0 c.saturating_sub-whole.result is in let z = c.of_one_way-cap.ensures.within y in
          omega (arith, z, c.saturating_sub-whole.ensures, c.leading-kind.ensures.within))
          (λ is. let y = ltb-false 0 c.saturating_sub-whole.result is in omega
          (arith, y, c.saturating_sub-whole.ensures)) c.leading-kind.ensures.all
          c.leading-kind.ensures.raw));
    }
