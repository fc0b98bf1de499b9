use Rattle.std.proofs.Common.{false, ◌≡◌, ◌∙◌, ◌+◌, ◌-◌, ◌*◌, ◌≤◌, ℕ, sym, refl, subst, inr, arith, length, take}
use Rattle.std.proofs.Common.{replicate, ap, Ok, Err}
use Rattle.std.proofs.Math.Seq.{take-append_seam}
use Rattle.abt_runs.specs.Raw.{RawPlace}
use Rattle.abt_runs.specs.declared.part.Cursor.{Cursor}
use Rattle.abt_placed.specs.Whole.{taken}
use Rattle.abt_placed.specs.Segment.{IsUncut}
use Rattle.abt_placed.proofs.Costs.{block_read}
use Rattle.abt_placed.proofs.Refusing.{broken_off, zeros_refused}
use Rattle.abt_placed.proofs.Parts.{full_once, full_as}
use Rattle.abt_placed.proofs.Pieces.{first_told, front_kept, all_kept, zeros_stay, unfinished_at, whole_piece}
use Rattle.abt_placed.proofs.Pieces.{all_taken}
use Rattle.abt_placed.specs.Calls.{Writes, stand, scene}
use Rattle.abt_placed.proofs.Onward.{written_out}
use Rattle.abt_placed.proofs.Passing.{lays_then, lays_fault, lays_written, lays_unwritten}
use Rattle.abt_placed.proofs.cutting.lay_piece.Goals as goal

pub end-requires-clause-zeros : goal.end-requires-clause-zeros
end-requires-clause-zeros g c =
    let old = g.O.Output.written c.args.output.now in
    let mid = g.O.Output.written c.write_out.new.output in
    let new = g.O.Output.written c.take_source.new.output in
    let f = c.take_source.new.self.placer.front in
    let same = c.take_source.ensures.lays.segment.same.1 in
    zeros_stay f c.begin-segment.result.placer.front old mid new
    (same ∙ c.begin-segment.ensures.front ∙ c.position-front.ensures) (sym same) c.in-Ok.ensures.ok
    c.take_source.ensures.lays.segment.kept

pub take_source-requires : goal.take_source-requires
take_source-requires g c = record {
  ready = record {
    sound =
        c.begin-segment.ensures.sound c.args.runs.now.size (length (g.O.Output.written c.write_out.new.output))
        c.requires.some c.requires.small c.requires.limit
        (let z = c.in-Ok.ensures.all in omega (arith, z, c.position-front.ensures));
    within = omega (arith, c.begin-segment.ensures.taken, c.requires.within);
    opened = c.requires.opened;
    told =
        let s = c.begin-segment.result in
        let e = c.begin-segment.ensures in
        first_told g.S.Source.models c.args.is_tail_raw (g.S.Source.content c.args.source.now) c.args.runs.now.size
        c.args.first (g.O.Output.written c.write_out.new.output) s e.first e.taken
        (e.laid c.args.runs.now.size (g.O.Output.written c.args.output.now)
        (g.O.Output.written c.write_out.new.output) c.position-front.ensures c.in-Ok.ensures.ok);
  };
}

-- not even the place of the header is kept
pub returns-in-Err : goal.returns-in-Err
returns-in-Err g c =
    let w = c.write_out.ensures in
    let e = c.in-Err.ensures in
    let old = g.O.Output.written c.args.output.now in
    let new = g.O.Output.written c.write_out.new.output in
    let first : Writes {X = Unit {0}} (Err c.in-Err.fault) 1 1 (stand g.O.Output c.args.output.now c.args.m.now)
    (stand g.O.Output c.write_out.new.output c.write_out.new.m) =
    written_out e.writes e.cause e.full w.calls w.turns w.no_step in
    record {
      lays = lays_unwritten (scene g.S.Source g.O.Output c.args.source.now c.args.output.now c.args.m.now) _ first;
      made = tt;
      before = ap (take (length old)) w.front ∙ take-append_seam old (take (length new - length old) (replicate 28 0));
      unfinished = broken_off old new w.writes.least w.front;
      within = omega (arith, w.within);
      long = λ uncut. omega (arith, w.within, c.requires.limit, full_once c.in-Err.fault);
      work = record {
        economy = omega arith;
        least = tt;
        last = tt;
        calls = omega (arith, w.calls);
        turns = omega (arith, w.turns);
        going_turns = tt;
      };
    }

-- the segment's blocks are not all taken
pub returns-in-Err-take_source : goal.returns-in-Err-take_source
returns-in-Err-take_source g c =
    let w = c.write_out.ensures in
    let kept = c.in-Ok.ensures in
    let t = c.take_source.ensures.lays in
    let e = c.in-Err-take_source.ensures.lays in
    let b = c.begin-segment.ensures in
    let place = c.position-front.ensures in
    let f = c.position-front.result in
    let front = c.begin-segment.result.placer.front in
    let old = g.O.Output.written c.args.output.now in
    let mid = g.O.Output.written c.write_out.new.output in
    let new = g.O.Output.written c.take_source.new.output in
    let first : Writes {X = Unit {0}} (Ok tt) 1 1 (stand g.O.Output c.args.output.now c.args.m.now)
    (stand g.O.Output c.write_out.new.output c.write_out.new.m) =
    written_out kept.writes kept.cause (λ says. absurd cc) w.calls w.turns w.no_step in
    record {
      lays = lays_fault (lays_then {x = false} (lays_written (scene g.S.Source g.O.Output c.args.source.now
          c.args.output.now c.args.m.now) _ first) e.lays);
      made = tt;
      before = subst (λ (n : ℕ). take n new ≡ old) place (front_kept f front old mid new place b.front kept.ok
          t.segment.kept);
      unfinished = inr (unfinished_at f old new place (zeros_refused f new
          (zeros_stay f front old mid new place b.front kept.ok t.segment.kept)));
      within = omega (arith, t.segment.within, b.front, place);
      long = λ uncut. let long = e.segment.long (rw (b.limit, b.most) uncut) in omega
          (arith, long, b.front, b.limit, place);
      work = record {
        economy = rw b.taken at t.reads.economy;
        least = tt;
        last = tt;
        calls = omega (arith, c.take_source.ensures.calls, w.calls);
        turns = omega (arith, c.take_source.ensures.turns, w.turns);
        going_turns = tt;
      };
    }

-- the piece is not made whole
pub returns-in-Err-end : goal.returns-in-Err-end
returns-in-Err-end g c =
    let w = c.write_out.ensures in
    let kept = c.in-Ok.ensures in
    let t = c.take_source.ensures.lays in
    let all = c.in-Ok-take_source.ensures.lays in
    let n = c.end.ensures in
    let e = c.in-Err-end.ensures in
    let b = c.begin-segment.ensures in
    let old = g.O.Output.written c.args.output.now in
    let mid = g.O.Output.written c.write_out.new.output in
    let now = g.O.Output.written c.take_source.new.output in
    let new = g.O.Output.written c.end.new.output in
    let f = c.take_source.new.self.placer.front in
    let place = t.segment.same.1 ∙ b.front ∙ c.position-front.ensures in
    let first : Writes {X = Unit {0}} (Ok tt) 1 1 (stand g.O.Output c.args.output.now c.args.m.now)
    (stand g.O.Output c.write_out.new.output c.write_out.new.m) =
    written_out kept.writes kept.cause (λ says. absurd cc) w.calls w.turns w.no_step in
    record {
      lays = lays_then (lays_then {x = false} (lays_written (scene g.S.Source g.O.Output c.args.source.now
          c.args.output.now c.args.m.now) _ first) all.lays) (lays_unwritten _ _ e.writes);
      made = tt;
      before = all_kept f c.begin-segment.result.placer.front old mid now new place (sym t.segment.same.1) kept.ok
          t.segment.kept n.before;
      unfinished = inr (unfinished_at f old new place e.unfinished);
      within = omega (arith, n.within, place);
      long = λ uncut. let long = n.long (rw (t.segment.same.3, b.limit, t.segment.same.0, b.most) uncut) in omega (
        arith,
        long,
        full_as c.end.result c.in-Err-end.fault c.in-Err-end.is,
        all.segment.sound.room,
        t.segment.same.3,
        b.limit,
        place,
      );
      work = record {
        economy = rw b.taken at t.reads.economy;
        least = tt;
        last = tt;
        calls = omega (arith, c.take_source.ensures.calls, w.calls, n.writes.calls);
        turns = omega (arith, c.take_source.ensures.turns, w.turns, n.writes.turns);
        going_turns = tt;
      };
    }

-- the piece is whole
pub returns : goal.returns
returns g c =
    let w = c.write_out.ensures in
    let kept = c.in-Ok.ensures in
    let t = c.take_source.ensures.lays in
    let all = c.in-Ok-take_source.ensures.lays in
    let n = c.end.ensures in
    let e = c.in-Ok-end.ensures in
    let b = c.begin-segment.ensures in
    let r = c.args.runs.now in
    let s = c.take_source.new.self in
    let old = g.O.Output.written c.args.output.now in
    let mid = g.O.Output.written c.write_out.new.output in
    let now = g.O.Output.written c.take_source.new.output in
    let new = g.O.Output.written c.end.new.output in
    let f = s.placer.front in
    let place = t.segment.same.1 ∙ b.front ∙ c.position-front.ensures in
    let next : RawPlace r.blocks r.size (let d : Cursor = record
    { block = taken s.placer; at = 0; chunk = 0; used = 0; ask = 1 } in d)
    = record {
      within = all.inside;
      some = omega arith;
      window = omega
          (arith, r.window);
      passed = omega arith;
      used = refl;
    } in
    let short = λ (uncut : IsUncut r.size c.args.limit c.args.most). let y = n.long
    (rw (
      t.segment.same.3,
      b.limit,
      t.segment.same.0,
      b.most,
    ) uncut) in let
    z : (length new - length old) ≤
    s.weight = omega (
      arith,
      y,
      place,
    ) in z in
    let light : s.weight ≤ 52 + (taken s.placer - c.args.first) * (r.size + 16) = rw (t.segment.same.2, b.first) at
    all.segment.sound.light in
    let least = rw b.taken at all.reads.least in
    let first : Writes {X = Unit {0}} (Ok tt) 1 1 (stand g.O.Output c.args.output.now c.args.m.now)
    (stand g.O.Output c.write_out.new.output c.write_out.new.m) =
    written_out kept.writes kept.cause (λ says. absurd cc) w.calls w.turns w.no_step in
    record {
      lays = lays_then (lays_then {x = false} (lays_written (scene g.S.Source g.O.Output c.args.source.now
          c.args.output.now c.args.m.now) _ first) all.lays) (lays_written _ _ e.writes);
      made = record {
        sound = λ uncut. record {
          first = refl;
          past = refl;
          order = omega (arith, all.segment.sound.order, t.segment.same.2, b.first);
          moves = λ less. omega (arith, c.in-Ok-take_source.ensures.ended.moves less, t.segment.same.2, b.first);
          end = all.inside;
          within = next;
          least = omega (arith, kept.all, t.lays.grown, n.writes.grown);
          long = let long = short uncut in omega (arith, long, all.segment.sound.room, t.segment.same.3, b.limit);
        };
        reached = λ far. all_taken (taken s.placer) r.blocks s.limit all.inside
            c.in-Ok-take_source.ensures.ended.reached (omega (arith, far, t.segment.same.3, b.limit));
        next = next;
        written = refl;
        bytes = omega (arith, w.writes.least, t.lays.grown, n.writes.grown);
        whole = whole_piece g.S.Source.models c.args.is_tail_raw (g.S.Source.content c.args.source.now) r.size r.length
            r.blocks c.args.limit c.args.most c.args.first (taken s.placer) c.end.new.self.placer.chunks old now
            (take f now) new s r.some r.covers r.last c.requires.opened all.segment.sound all.told
            c.in-Ok-take_source.ensures.ended (t.segment.same.2 ∙ b.first) refl (t.segment.same.3 ∙ b.limit)
            all.inside
            (front_kept f c.begin-segment.result.placer.front old mid now place (sym t.segment.same.1) kept.ok
            t.segment.kept) (let l = e.laid all.told.blocks all.told.laid in rw (t.segment.same.0, b.most) at l);
        takes = λ uncut. let long = short uncut in omega (arith, long, light);
      };
      before = all_kept f c.begin-segment.result.placer.front old mid now new place (sym t.segment.same.1) kept.ok
          t.segment.kept n.before;
      unfinished = tt;
      within = omega (arith, n.within, place);
      long = λ uncut. let long = short uncut in omega (
        arith,
        long,
        w.writes.least,
        t.lays.grown,
        n.writes.grown,
        all.segment.sound.room,
        t.segment.same.3,
        b.limit,
      );
      work = record {
        economy = rw b.taken at t.reads.economy;
        least = least;
        last = rw b.taken at all.reads.last;
        calls = omega (arith, c.take_source.ensures.calls, w.calls, n.writes.calls);
        turns = omega (arith, c.take_source.ensures.turns, w.turns, n.writes.turns);
        going_turns = λ less.
            let one = block_read c.args.first (taken s.placer) r.blocks r.size r.length _ _
            (let z = c.in-Ok-take_source.ensures.ended.moves less in omega
            (arith, z, t.segment.same.2, b.first)) less r.last least in
            omega (arith, c.take_source.ensures.turns, w.turns, n.writes.turns, one);
      };
    }
