use Rattle.std.proofs.Common.{rules, arith, ap, refl, ◌-◌, ◌≡◌, ◌<◌, ◌∙◌, true, false}
use Rattle.std.proofs.lemmas.Bool.{true≢false, false≢true}
use Rattle.abt_io.proofs.Lent.{reads_err, reads_ok}
use Rattle.abt_runs.specs.Part.{is_end}
use Rattle.abt_pieces.proofs.Planning.{planned_on, planned_rests, planned_still, even_on, even_rests, even_still}
use Rattle.abt_pieces.proofs.Planning.{ends_here, ends_last, ends_rests, last_ask, cap_some, fills_up, no_room}
use Rattle.abt_pieces.specs.declared.contents.PieceContents.{PieceContents}
use Rattle.abt_pieces.proofs.Counts.{words_on, takes_on}
use Rattle.abt_pieces.proofs.plan.Planner.step.Goals as goal

pub returns-in-Err : goal.returns-in-Err
returns-in-Err g c =
    let e = c.next_part.ensures.part in
    record {
      source = record {
        reads = reads_err _ c.in-Err.ensures.part.source.reads;
        cause = c.in-Err.ensures.part.source.cause;
      };
      sound = c.requires.ready.sound;
      told = c.requires.ready.told;
      goes_on = tt;
      rests = tt;
      ends = λ models. tt;
      onward = tt;
      stuck = λ used tail room. tt;
      costs = e.costs;
    }

-- the image has no block more
pub returns-in-End : goal.returns-in-End
returns-in-End g c =
    let n = c.next_part.ensures.part in
    let e = c.in-Ok.ensures.part in
    let ended : is_end c.in-Ok.run'.kind ≡ true = rw c.in-End.is refl in
    let here = g.met.R.BlockRuns.afresh_within c.args.runs.now c.args.self.now.at c.requires.ready.sound.within in
    let read = c.in-Ok.ensures.asked.ended ended in
    record {
      source = record { reads = reads_ok _ e.source.reads; cause = tt };
      sound = record {
        first = refl;
        within = here.within;
        room = c.requires.ready.sound.room;
        even =
            even_rests c.args.self.now c.requires.ready.sound.even;
      };
      told = λ models. record {
        place = g.met.R.BlockRuns.afresh_place c.args.runs.now _ c.args.self.now.at
            (c.requires.ready.told models).place;
        planned = planned_rests _ _ c.args.self.now (c.requires.ready.told models).planned;
      };
      goes_on = λ d. absurd (true≢false d);
      rests = λ d. record {
        last = omega (arith, read);
        at_end = λ over. read;
        still = refl;
        rests = (here.charge, here.taken, here.left);
      };
      ends = λ models d. ends_rests _ _ _ c.args.self.now
          (ends_last _ _ _ c.args.self.now ((e.told models).part.ended ended));
      onward = here.copied;
      stuck = λ used tail room. refl;
      costs = n.costs;
    }

-- the place moves on, and no block is passed
pub returns-then-run-eq0 : goal.returns-then-run-eq0
returns-then-run-eq0 g c =
    let n = c.next_part.ensures.part in
    let e = c.in-Ok.ensures.part in
    let none = c.if-run-eq0.true in
    let going : is_end c.in-Ok.run'.kind ≡ false = search rules in
    let size = g.met.R.BlockRuns.sized c.args.runs.now in
    let cap = rw c.block_size-size.ensures at c.raw_cap-cap.ensures in
    let there : c.in-Ok.run'.next.block ≡ c.args.self.now.at.block = omega (arith, e.found.moved, none) in
    let p = g.met.R.BlockRuns.padded c.args.runs.now c.args.self.now.at in
    record {
      source = record { reads = reads_ok _ e.source.reads; cause = tt };
      sound = record {
        first = refl;
        within = e.found.within;
        room = c.requires.ready.sound.room;
        even =
            even_still c.args.self.now _ there c.requires.ready.sound.even;
      };
      told = λ models. record {
        place = (e.told models).place;
        planned = planned_still _ _ c.args.self.now _ there (c.requires.ready.told models).planned;
      };
      goes_on = λ d. record {
        on = e.found.on going;
        charged = e.found.charged;
        inside = λ used. let s = (e.found.stops used).1 in let z =
            cap_some c.args.self.now.tail (c.args.limit - c.args.self.now.weight) (g.R.BlockRuns.size c.args.runs.now)
            (omega (arith, size)) in absurd (omega (arith, s, none, z, cap));
        takes = omega (arith, e.found.takes);
        fetched = c.in-Ok.ensures.asked.fetched going;
        words = words_on _ _ _ _ _ c.in-Ok.run'.blocks p.0 p.1 e.found.filled_up e.found.moved;
      };
      rests = λ d. absurd (false≢true d);
      ends = λ models d. absurd (false≢true d);
      onward = omega (arith, e.found.onward);
      stuck = λ used tail room. let s = (e.found.goes_on used).1 in absurd (omega (arith, s, none));
      costs = n.costs;
    }

-- one block more would be beyond the limit
pub returns-then-gain-room : goal.returns-then-gain-room
returns-then-gain-room g c =
    let n = c.next_part.ensures.part in
    let e = c.in-Ok.ensures.part in
    let size = g.met.R.BlockRuns.sized c.args.runs.now in
    let one = g.met.R.BlockRuns.one_fits c.args.runs.now in
    let here = g.met.R.BlockRuns.afresh_within c.args.runs.now c.args.self.now.at c.requires.ready.sound.within in
    let room = c.args.limit - c.args.self.now.weight in
    let capped = rw (c.raw_cap-cap.ensures, c.block_size-size.ensures) at e.found.capped in
    let most = rw (c.raw_cap-cap.ensures, c.block_size-size.ensures) at c.in-Ok.ensures.most in
    let gain = rw c.block_size-size.ensures at c.added-gain.ensures.gain in
    let over = c.if-gain-room.true in
    let some : 0 < c.in-Ok.run'.blocks = omega arith in
    let last = last_ask c.args.self.now.tail c.in-Ok.run'.kind c.in-Ok.run'.blocks _ _ room (omega (arith, size)) one
    capped.raw (omega (arith, gain, over)) in
    let bound = g.met.R.BlockRuns.bounded c.args.runs.now c.in-Ok.run'.next e.found.within in
    record {
      source = record { reads = reads_ok _ e.source.reads; cause = tt };
      sound = record {
        first = refl;
        within = here.within;
        room = c.requires.ready.sound.room;
        even =
            even_rests c.args.self.now c.requires.ready.sound.even;
      };
      told = λ models. record {
        place = g.met.R.BlockRuns.afresh_place c.args.runs.now _ c.args.self.now.at
            (c.requires.ready.told models).place;
        planned = planned_rests _ _ c.args.self.now (c.requires.ready.told models).planned;
      };
      goes_on = λ d. absurd (true≢false d);
      rests = λ d. record {
        last = omega (arith, last, most);
        at_end = λ end. absurd (omega (arith, end, bound, e.found.moved, some));
        still = refl;
        rests = (here.charge, here.taken, here.left);
      };
      ends = λ models d. ends_rests _ _ _ c.args.self.now
          (ends_here _ _ _ c.args.self.now c.in-Ok.run' _ (omega (arith, size)) (c.requires.ready.told models).planned
          (e.told models).part some c.requires.ready.sound.room capped gain over);
      onward = here.copied;
      stuck = λ used tail room. refl;
      costs = n.costs;
    }

-- the part is passed
pub returns : goal.returns
returns g c =
    let n = c.next_part.ensures.part in
    let e = c.in-Ok.ensures.part in
    let going : is_end c.in-Ok.run'.kind ≡ false = search rules in
    let some : 0 < c.in-Ok.run'.blocks = omega arith in
    let p = g.met.R.BlockRuns.padded c.args.runs.now c.args.self.now.at in
    let size = g.met.R.BlockRuns.sized c.args.runs.now in
    let room = c.args.limit - c.args.self.now.weight in
    let cap = rw c.block_size-size.ensures at c.raw_cap-cap.ensures in
    let fits = c.if-gain-room.false in
    let gain = rw c.block_size-size.ensures at c.added-gain.ensures.gain in
    let with = rw c.block_size-size.ensures at c.with-self.ensures in
    let bytes = ap (λ (x : PieceContents). x.bytes) with in
    let takes = takes_on c.last-last.result c.in-Ok.run'.kind c.args.self.now.at.used c.in-Ok.run'.blocks _
    c.args.self.now.contents.bytes _ _ (λ used. (e.found.goes_on used).0) going e.found.takes in
    record {
      source = record { reads = reads_ok _ e.source.reads; cause = tt };
      sound = record {
        first = refl;
        within = e.found.within;
        room =
            omega (arith, c.requires.ready.sound.room, c.if-gain-room.false);
        even =
            even_on c.args.self.now c.in-Ok.run' _ _ _ _ _ c.requires.ready.sound.even e.found.moved some going gain
            c.added-gain.ensures.tail c.last-last.ensures with;
      };
      told = λ models. record {
        place = (e.told models).place;
        planned = planned_on _ _ c.args.self.now c.in-Ok.run' _ _ _ _ (c.requires.ready.told models).planned
            (e.told models).part some gain c.added-gain.ensures.tail c.last-last.ensures with;
      };
      goes_on = λ d. record {
        on = e.found.on going;
        charged = e.found.charged;
        inside = λ used.
            let s = e.found.stops used in
            let f = fills_up c.args.self.now.tail _ _ _ room (omega (arith, size)) s.0 (s.1 ∙ cap) (rw gain at fits) in
            (c.added-gain.ensures.tail ∙ f.0, omega (arith, f.1, gain));
        takes = omega (arith, bytes, takes);
        fetched = c.in-Ok.ensures.asked.fetched going;
        words = words_on _ _ _ _ _ c.in-Ok.run'.blocks p.0 p.1 e.found.filled_up e.found.moved;
      };
      rests = λ d. absurd (false≢true d);
      ends = λ models d. absurd (false≢true d);
      onward = omega (arith, e.found.onward);
      stuck = λ used tail little. absurd (no_room c.args.self.now.tail _ _ _ room some (e.found.goes_on used).0 tail
          little (rw gain at fits));
      costs = n.costs;
    }
