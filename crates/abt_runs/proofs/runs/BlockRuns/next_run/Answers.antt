use Rattle.std.proofs.Common.{◌≡◌, ℕ, ◌+◌, ◌*◌, ◌<◌, ◌≤◌, arith, ap, sym, ◌∙◌, subst, refl, mul-le-mul_right}
use Rattle.abt_io.proofs.Lent.{reads_then, reads_ok}
use Rattle.abt_runs.specs.declared.part.Cursor.{Cursor}
use Rattle.abt_runs.specs.Part.{entry}
use Rattle.abt_runs.specs.Whole.{room_in}
use Rattle.abt_runs.proofs.Charges.{costs_on, costs_end, no_more}
use Rattle.abt_runs.proofs.Growing.{joins, rests, so_far, stops, is_full, next_is, blocks_are, here_is, none_is, end_is}
use Rattle.abt_runs.proofs.Growing.{none_left, rests_at, nowhere_is, raw_is, few_are, no_room, entry_after, room_most}
use Rattle.abt_runs.proofs.runs.BlockRuns.next_run.Goals as goal

at_least : (n size reach : ℕ) → 0 < n → n * size ≤ reach → size ≤ reach
at_least n size reach some le = let m : 1 * size ≤ n * size = mul-le-mul_right size (let z : 1 ≤ n = omega arith in z)
    in omega arith

pub parts-preserved : goal.parts-preserved
parts-preserved g c =
    let runs = g.Self.BlockRuns in
    let i = c.parts.invariant in
    let e = c.in-Ok.ensures in
    let self = c.args.self.now in
    let x = g.S.Source.content c.args.source.now in
    let r = c.parts.run in
    let p = c.in-Ok.part in
    let s = c.in-Some.longer in
    let j = joins r p s (sym c.joined.ensures ∙ c.in-Some.is) in
    let at : r.next.block ≡ c.args.from.block + r.blocks = i.next in
    let moved : p.next.block ≡ r.next.block + p.blocks = e.part.found.moved in
    let first : p.here.block ≡ r.next.block = e.part.found.here.0 in
    let same : s.next ≡ p.next = next_is r p s j in
    let blocks : s.blocks ≡ r.blocks + p.blocks = blocks_are r p s j in
    let tick = c.tick.ensures in
    let room : 0 < room_in r.kind r.blocks c.args.cap = omega (arith, c.if-room-eq0.false, c.room-room.ensures) in
    let paid : g.S.Source.given c.next_part.new.source + runs.charge self c.args.from
    ≤ g.S.Source.given c.args.source.now + runs.charge self p.next + entry c.args.from =
    omega (arith, e.part.found.charged, i.going room) in
    let padded = (g.met.Self.BlockRuns.padded self r.next).0 in
    record {
      reads = reads_then i.reads (reads_ok tt e.part.source.reads);
      so_far = λ t. so_far (runs.list self x) c.args.from.block r p s j (i.so_far t)
          (rw (i.reads.content t) at (e.part.told t).part);
      here_place = λ t. here_is (λ (h : Cursor). runs.place self x h) r p s j (i.here_place t)
          (λ z. rw (i.reads.content t) at (e.part.told t).here_place)
          (λ z n. rw (i.reads.content t) at (e.part.told t).place);
      next_place = λ t. subst (λ (h : Cursor). runs.place self x h) (sym same)
          (rw (i.reads.content t) at (e.part.told t).place);
      stands = λ t k. raw_is (λ (h : Cursor). 0 < runs.together self x h) r p s j i.none (i.stands t)
          (λ k' some. let f : p.blocks ≤ runs.together self x p.here =
          rw (i.reads.content t) at ((e.part.told t).stands k') in omega arith) k;
      here_within = here_is (λ (h : Cursor). runs.within self h) r p s j i.here_within (λ z. e.part.found.here.1)
          (λ z n. e.part.found.within);
      next_within = subst (λ (h : Cursor). runs.within self h) (sym same) (e.part.found.within);
      reached = λ k. raw_is (λ (h : Cursor). runs.size self ≤ runs.reach self h) r p s j i.none i.reached
          (λ k' some. at_least p.blocks (runs.size self) (runs.reach self p.here) some (e.part.found.reached k')) k;
      here = here_is (λ (h : Cursor). h.block ≡ c.args.from.block) r p s j i.here (λ z. omega arith)
          (λ z n. omega arith);
      next = ap (λ (h : Cursor). h.block) same ∙ (let z : p.next.block ≡ c.args.from.block + s.blocks = omega arith in
          z);
      none = none_is r p s j i.none;
      ended = end_is r p s j i.ended;
      nowhere = nowhere_is r p s j i.nowhere;
      few = few_are c.args.cap r p s j i.none i.few (λ k. let f = e.part.found.capped.raw k in omega
          (arith, f, c.room-room.ensures));
      charged = omega (arith, paid, ap (λ (h : Cursor). runs.charge self h) same);
      going = λ more. let none : entry s.next ≡ 0 = ap entry same ∙ entry_after c.args.cap r p s j i.none room
          (λ u. let f = e.part.found.stops u in (f.0, f.1 ∙ c.room-room.ensures)) more in omega
          (arith, paid, none, ap (λ (h : Cursor). runs.charge self h) same);
      costs = costs_on i.costs tick.turns tick.steps tick.greatest e.part.costs padded;
    }

-- as many blocks as are wanted
pub returns-then-room-eq0 : goal.returns-then-room-eq0
returns-then-room-eq0 g c =
    let i = c.parts.invariant in
    let tick = c.tick.ensures in
    let self = c.args.self.now in
    let r = c.parts.run in
    let n = no_room c.args.cap r.blocks r.kind c.requires.asks.some (sym c.room-room.ensures ∙ c.if-room-eq0.true) in
    let few = i.few n.0 in
    record {
      source = record { reads = reads_ok _ i.reads; cause = tt };
      told = λ t. record {
        run = is_full c.args.cap _ c.args.from.block r (i.so_far t) n.0 (omega (arith, n.1, few)) c.requires.asks.some;
        places = (i.here_place t, i.next_place t);
        stands = i.stands t;
      };
      found = record {
        nowhere = i.nowhere;
        within = (i.here_within, i.next_within);
        reached = i.reached;
        moved = (i.here, i.next);
        capped = record { raw = i.few };
        end = none_left r c.args.from.block r.next.block _ i.none i.ended i.next
            (g.met.Self.BlockRuns.bounded self r.next i.next_within)
            (λ z. absurd (omega (arith, n.1, z, c.requires.asks.some)));
        charged = omega (arith, i.charged);
      };
      costs = costs_end i.costs (omega (arith, tick.turns)) tick.steps tick.greatest;
    }

-- the next part is not of the run
pub returns-in-None : goal.returns-in-None
returns-in-None g c =
    let runs = g.Self.BlockRuns in
    let i = c.parts.invariant in
    let e = c.in-Ok.ensures in
    let tick = c.tick.ensures in
    let self = c.args.self.now in
    let r = c.parts.run in
    let p = c.in-Ok.part in
    let rest = rests r p (sym c.joined.ensures ∙ c.in-None.is) in
    let padded = (g.met.Self.BlockRuns.padded self r.next).0 in
    record {
      source = record { reads = reads_then i.reads (reads_ok _ e.part.source.reads); cause = tt };
      told = λ t. record {
        run = stops c.args.cap _ c.args.from.block r p rest (i.so_far t)
            (rw (i.reads.content t) at (e.part.told t).part)
            i.none i.few;
        places = (i.here_place t, i.next_place t);
        stands = i.stands t;
      };
      found = record {
        nowhere = i.nowhere;
        within = (i.here_within, i.next_within);
        reached = i.reached;
        moved = (i.here, i.next);
        capped = record { raw = i.few };
        end = none_left r c.args.from.block r.next.block (runs.count self) i.none i.ended i.next
            (g.met.Self.BlockRuns.bounded self r.next i.next_within)
            (λ z. (e.part.found.at_end (rests_at r p rest z)).0);
        charged =
            let few : c.room-room.result * runs.one self ≤ c.args.cap * runs.one self =
            mul-le-mul_right (runs.one self) (let z : c.room-room.result ≤ c.args.cap =
            omega (arith, c.room-room.ensures, room_most c.args.cap r.blocks r.kind) in z) in
            omega (arith, few, e.most, e.part.costs.received, i.charged);
      };
      costs = costs_end (costs_on i.costs tick.turns tick.steps tick.greatest e.part.costs padded) (no_more _ 1) refl
          refl;
    }
