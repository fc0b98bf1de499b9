use Rattle.std.proofs.Common.{◌≡◌, ◌+◌, ◌-◌, ◌*◌, ◌≤◌, ◌++◌, arith, length, take, drop, replicate, refl, true, false}
use Rattle.std.proofs.Math.Nat.{le_refl}
use Rattle.std.specs.Prelude.{IsTrue, slice_range}
use Rattle.abt_runs.proofs.Classes.{if_none}
use Rattle.abt_pieces.proofs.Fronts.{not_told, run_causes, run_unfilled}
use Rattle.abt_runs.specs.Tail.{classed_count}
use Rattle.abt_placed.specs.Whole.{taken}
use Rattle.abt_placed.proofs.Refusing.{keeps_same}
use Rattle.abt_placed.proofs.Costs.{fits_window, read_more, no_wider, sound_within, not_so_far}
use Rattle.abt_placed.proofs.Sourced.{Loaded, told_on, ended_on, none_over, no_more_than}
use Rattle.abt_placed.proofs.Spending.{window_read, read_costs, going_costs, broken_costs, unread_costs, taken_read}
use Rattle.abt_placed.proofs.Spending.{few_got, last_on}
use Rattle.abt_placed.proofs.Passing.{reads, lays_then, lays_written, lays_unwritten}
use Rattle.abt_placed.proofs.segment.Segment.step.Goals as goal
use Rattle.abt_io.proofs.Lent.{reads_none}
use Rattle.std.proofs.Common.{Ok, ℕ}

-- where all are taken
pub returns-then-from-runs : goal.returns-then-from-runs
returns-then-from-runs g c =
    let r = c.args.runs.now in
    let s = c.args.self.now in
    let q = c.requires.ready in
    let step = c.close_step.ensures in
    let given = g.S.Source.given c.args.source.now in
    let x = unread_costs (taken s.placer) r.size r.length given (g.S.Source.reads c.args.source.now)
    (g.O.Output.writes c.args.output.now) (length (g.O.Output.written c.args.output.now)) _ _ step.turns in
    record {
      lays = record {
        lays = reads g.S.Source g.O.Output _ _ _ c.args.m.now c.args.m.now c.close_step.new.self 0
            (reads_none {X = ℕ} {E = ℕ} (Ok 0) g.S.Source c.args.source.now) (omega arith) (omega arith) refl refl
            step.steps step.greatest refl refl tt;
        told = q.told;
        segment = record {
          kept = keeps_same _ _;
          sound = q.sound;
          same = (refl, refl, refl, refl);
          within = no_wider (taken s.placer) r.blocks r.size (s.placer.front + 28) _ q.within
              (sound_within r.size _ s.placer q.sound.placer);
          long = λ uncut. let fits = q.sound.fits uncut in omega (arith, fits, q.sound.room);
        };
        inside = q.within;
        reads = record {
          economy = x.economy;
          least = omega arith;
          last = last_on _ _ given given 0 (le_refl _) (omega arith) (omega arith);
        };
      };
      ended = λ is. none_over g.S.Source.models c.args.is_tail_raw (g.S.Source.content c.args.source.now) r.size
          r.length r.blocks s r.some r.covers r.last q.opened c.if-from-runs.true;
      on = λ on. absurd (let z : true ≡ false = on in cc);
      once = λ on. absurd (let z : true ≡ false = on in cc);
      going_calls = λ on. absurd (let z : true ≡ false = on in cc);
      calls = x.calls;
      going_turns = λ on. absurd (let z : true ≡ false = on in cc);
      turns = x.turns;
    }

-- the source is not as long as it was
pub returns-then-length-runs : goal.returns-then-length-runs
returns-then-length-runs g c =
    let r = c.args.runs.now in
    let s = c.args.self.now in
    let q = c.requires.ready in
    let step = c.close_step-then-length-runs.ensures in
    let given = g.S.Source.given c.args.source.now in
    let x = unread_costs (taken s.placer) r.size r.length given (g.S.Source.reads c.args.source.now)
    (g.O.Output.writes c.args.output.now) (length (g.O.Output.written c.args.output.now)) _ _ step.turns in
    record {
      lays = record {
        lays = reads g.S.Source g.O.Output _ _ _ c.args.m.now c.args.m.now c.close_step-then-length-runs.new.self 0
            (reads_none {X = ℕ} {E = ℕ} (Ok 0) g.S.Source c.args.source.now) (omega arith) (omega arith) refl refl
            step.steps step.greatest tt refl
            (not_told g.S.Source.models (λ models. let other = c.if-length-runs.true in absurd
            (omega (arith, c.length.ensures.told models, q.opened models))));
        told = tt;
        segment = record {
          kept = keeps_same _ _;
          sound = tt;
          same = (refl, refl, refl, refl);
          within = no_wider (taken s.placer) r.blocks r.size (s.placer.front + 28) _ q.within
              (sound_within r.size _ s.placer q.sound.placer);
          long = λ uncut. let fits = q.sound.fits uncut in omega (arith, fits, q.sound.room);
        };
        inside = tt;
        reads = record {
          economy = x.economy;
          least = tt;
          last = tt;
        };
      };
      ended = tt;
      on = tt;
      once = tt;
      going_calls = tt;
      calls = x.calls;
      going_turns = tt;
      turns = x.turns;
    }

-- the window is not read
pub returns-in-Some : goal.returns-in-Some
returns-in-Some g c =
    let r = c.args.runs.now in
    let s = c.args.self.now in
    let sound = c.requires.ready.sound in
    let l = c.load_filled-loaded.ensures in
    let got = c.load_filled-loaded.result.received in
    let step = c.close_step-2.ensures in
    let w = g.O.Output.written c.args.output.now in
    let fits = fits_window c.min-asked.result c.in_window.result r.size (omega arith) c.in_window.ensures.fits in
    let few = few_got got c.min-want.result _ _ l.wanted.few c.min-want.ensures fits in
    let unsaid = run_unfilled c.run_fault.result c.in-Some.fault 0 c.run_fault.ensures in
    let x = broken_costs (taken s.placer) r.size r.length c.place_of-at.result c.min-want.result
    (c.min-asked.result * r.size) got _ _ _ _ (g.O.Output.writes c.args.output.now) (length w) _ _ _
    c.place_of-at.ensures.place c.place_of-at.ensures.within c.min-want.ensures l.wanted.few
    l.wanted.loads.given l.wanted.loads.calls l.wanted.loads.turns step.turns in
    record {
      lays = record {
        lays = reads g.S.Source g.O.Output c.args.source.now c.load_filled-loaded.new.source c.args.output.now
            c.args.m.now c.load_filled-loaded.new.m c.close_step-2.new.self got l.wanted.loads.reads
            l.wanted.loads.given few l.wanted.loads.no_step.steps l.wanted.loads.no_step.greatest step.steps
            step.greatest tt (let z = run_unfilled c.run_fault.result c.in-Some.fault 0 c.run_fault.ensures in
            omega (arith, z))
            (run_causes c.run_fault.result c.in-Some.fault g.S.Source.models _ _ _ _ c.run_fault.ensures
            (rw c.in-Some.is at l.wanted.loads.cause));
        told = tt;
        segment = record {
          kept = keeps_same _ _;
          sound = tt;
          same = (refl, refl, refl, refl);
          within = no_wider (taken s.placer) r.blocks r.size (s.placer.front + 28) _ c.requires.ready.within
              (sound_within r.size _ s.placer sound.placer);
          long = λ uncut. let fits = sound.fits uncut in omega (arith, fits, sound.room, unsaid);
        };
        inside = tt;
        reads = record {
          economy = x.economy;
          least = tt;
          last = tt;
        };
      };
      ended = tt;
      on = tt;
      once = tt;
      going_calls = tt;
      calls = x.calls;
      going_turns = tt;
      turns = x.turns;
    }

-- what of the window fits is taken
pub returns-in-Ok : goal.returns-in-Ok
returns-in-Ok g c =
    let r = c.args.runs.now in
    let s = c.args.self.now in
    let s' = c.take_fitting.new.self in
    let a = c.min-asked.result in
    let l = c.load_filled-loaded.ensures in
    let got = c.load_filled-loaded.result.received in
    let want = c.min-want.result in
    let step = c.close_step-2.ensures in
    let t = c.take_fitting.ensures in
    let e = c.in-Ok.ensures in
    let w = g.O.Output.written c.args.output.now in
    let w' = g.O.Output.written c.take_fitting.new.output in
    let x = g.S.Source.content c.args.source.now in
    let told = c.requires.ready.told in
    let fits = fits_window a c.in_window.result r.size (omega arith) c.in_window.ensures.fits in
    let few = few_got got want _ _ l.wanted.few c.min-want.ensures fits in
    let within : taken s'.placer ≤ taken s.placer + a = no_more_than c.in-Ok.ended (taken s.placer) (taken s'.placer)
    a e.all e.short in
    let read = window_read (taken s.placer) a r.size r.length r.blocks c.place_of-at.result want got _ _ _ _ _ _
    c.place_of-at.ensures.place c.place_of-at.ensures.within (omega arith) r.some c.min-want.ensures
    (if_none {P = got ≡ want} c.load_filled-loaded.result.fault c.in_default.is l.wanted.whole)
    (omega arith) r.last l.wanted.loads.given l.wanted.loads.calls l.wanted.loads.turns in
    let spent = read_costs (taken s.placer) a r.size r.length r.blocks want got _ _ _ _ _ _ _ _ _ _ _ _ read
    step.turns t.writes.calls t.writes.turns in
    let loaded : IsTrue g.S.Source.models → Loaded r.size r.length (taken s.placer) want (a * r.size) x
    c.load_filled-loaded.new.w.bytes =
    λ models. record {
      long = c.requires.ready.opened models;
      there = omega (arith, c.place_of-at.ensures.place, c.place_of-at.ensures.within);
      asked = rw c.place_of-at.ensures.place at c.min-want.ensures;
      bytes = rw c.place_of-at.ensures.place at (if_none {P = slice_range c.load_filled-loaded.new.w.bytes 0
          (a * r.size) ≡ take want (drop c.place_of-at.result x) ++ replicate (a * r.size - want) 0}
          c.load_filled-loaded.result.fault c.in_default.is (l.bytes models));
    } in
    let ahead : c.saturating_sub-classed.result ≡ classed_count c.args.is_tail_raw r.size r.length r.blocks - taken
    s.placer = omega (arith, c.saturating_sub-classed.ensures, c.classed.ensures.is) in
    record {
      lays = record {
        lays = lays_then {x = false} (reads g.S.Source g.O.Output c.args.source.now c.load_filled-loaded.new.source
            c.args.output.now c.args.m.now c.load_filled-loaded.new.m c.close_step-2.new.self got l.wanted.loads.reads
            l.wanted.loads.given few l.wanted.loads.no_step.steps l.wanted.loads.no_step.greatest step.steps
            step.greatest (rw c.in_default.is at l.wanted.loads.reads).clean refl tt)
            (lays_written _ _ e.writes);
        told = told_on g.S.Source.models c.args.is_tail_raw x r.size r.length r.blocks a
            (taken s'.placer - taken s.placer) want (a * r.size) c.saturating_sub-classed.result w w'
            c.load_filled-loaded.new.w.bytes s s' r.some r.covers r.last (omega arith)
            (omega (arith, within, e.order)) (omega (arith, e.order)) t.segment.same.2
            c.requires.ready.sound.order refl ahead told (e.laid told.blocks told.laid) loaded;
        segment = record {
          kept = t.segment.kept;
          sound = e.segment.sound;
          same = t.segment.same;
          within = no_wider (taken s.placer + a) r.blocks r.size (s.placer.front + 28) _ (omega arith) t.segment.within;
          long = e.segment.long;
        };
        inside = omega (arith, within);
        reads = record {
          economy = spent.economy;
          least = taken_read (taken s.placer) (taken s'.placer) a r.size r.length r.blocks want got _ _ _ _ _ _ within
              read;
          last = last_on _ _ _ _ got (read_more (taken s.placer) (taken s'.placer) r.size r.length e.order)
              l.wanted.loads.given few;
        };
      };
      ended = λ is.
          let short = e.short is in
          ended_on g.S.Source.models c.args.is_tail_raw x r.size r.length r.blocks a (taken s'.placer - taken s.placer)
          want (a * r.size) c.saturating_sub-classed.result w w' c.load_filled-loaded.new.w.bytes s s' r.some
          r.covers r.last (omega arith) (omega (arith, short, e.order)) (omega (arith, e.order))
          t.segment.same.2 t.segment.same.3 c.requires.ready.sound.order (e.some is)
          (not_so_far (taken s.placer + a) r.blocks r.size s.limit (omega arith) r.fits (omega (arith, r.window))
          (e.reached is)) refl ahead told (e.laid told.blocks told.laid) loaded (e.over told.blocks told.laid is);
      on = λ on. omega (arith, e.all on);
      once = λ on. (going_costs (taken s.placer) (taken s'.placer) a r.size r.length r.blocks want got _ _ _ _ _ _ _ _
          _ _ _ _ (e.all on) read step.turns t.writes.calls t.writes.turns).once;
      going_calls = λ on. (going_costs (taken s.placer) (taken s'.placer) a r.size r.length r.blocks want got _ _ _ _
          _ _ _ _ _ _ _ _ (e.all on) read step.turns t.writes.calls t.writes.turns).calls;
      calls = spent.calls;
      going_turns = λ on. (going_costs (taken s.placer) (taken s'.placer) a r.size r.length r.blocks want got _ _ _ _
          _ _ _ _ _ _ _ _ (e.all on) read step.turns t.writes.calls t.writes.turns).turns;
      turns = spent.turns;
    }

-- it is not
pub returns-in-Err : goal.returns-in-Err
returns-in-Err g c =
    let r = c.args.runs.now in
    let s = c.args.self.now in
    let a = c.min-asked.result in
    let l = c.load_filled-loaded.ensures in
    let got = c.load_filled-loaded.result.received in
    let want = c.min-want.result in
    let step = c.close_step-2.ensures in
    let t = c.take_fitting.ensures in
    let e = c.in-Err.ensures in
    let fits = fits_window a c.in_window.result r.size (omega arith) c.in_window.ensures.fits in
    let few = few_got got want _ _ l.wanted.few c.min-want.ensures fits in
    let read = window_read (taken s.placer) a r.size r.length r.blocks c.place_of-at.result want got _ _ _ _ _ _
    c.place_of-at.ensures.place c.place_of-at.ensures.within (omega arith) r.some c.min-want.ensures
    (if_none {P = got ≡ want} c.load_filled-loaded.result.fault c.in_default.is l.wanted.whole)
    (omega arith) r.last l.wanted.loads.given l.wanted.loads.calls l.wanted.loads.turns in
    let spent = read_costs (taken s.placer) a r.size r.length r.blocks want got _ _ _ _ _ _ _ _ _ _ _ _ read
    step.turns t.writes.calls t.writes.turns in
    record {
      lays = record {
        lays = lays_then {x = false} (reads g.S.Source g.O.Output c.args.source.now c.load_filled-loaded.new.source
            c.args.output.now c.args.m.now c.load_filled-loaded.new.m c.close_step-2.new.self got l.wanted.loads.reads
            l.wanted.loads.given few l.wanted.loads.no_step.steps l.wanted.loads.no_step.greatest step.steps
            step.greatest (rw c.in_default.is at l.wanted.loads.reads).clean refl tt)
            (lays_unwritten _ _ e.writes);
        told = tt;
        segment = record {
          kept = t.segment.kept;
          sound = tt;
          same = t.segment.same;
          within = no_wider (taken s.placer + a) r.blocks r.size (s.placer.front + 28) _ (omega arith) t.segment.within;
          long = e.segment.long;
        };
        inside = tt;
        reads = record {
          economy = spent.economy;
          least = tt;
          last = tt;
        };
      };
      ended = tt;
      on = tt;
      once = tt;
      going_calls = tt;
      calls = spent.calls;
      going_turns = tt;
      turns = spent.turns;
    }
