use Rattle.std.proofs.Common.{arith, ◌∙◌, ap, refl, sym, ◌≡◌, ◌*◌, ◌≤◌, ◌<◌, ◌-◌, ℕ, min, true, false, length, nat_lt}
use Rattle.std.proofs.Common.{mul-le-mul_right}
use Rattle.std.proofs.lemmas.Bool.{true≢false, ltb-true, ltb-false}
use Rattle.abt_runs.specs.RawLaws.{raw_count, raw_padded, own_size}
use Rattle.abt_runs.specs.TailLaws.{list_long}
use Rattle.abt_runs.specs.Raw.{RawPlace}
use Rattle.abt_runs.specs.Part.{is_end}
use Rattle.abt_io.proofs.Lent.{reads_none, reads_ok}
use Rattle.abt_runs.proofs.Classes.{never, if_none}
use Rattle.abt_runs.proofs.Tailed.{read_all}
use Rattle.abt_runs.proofs.Charges.{raw_charged, charge_fresh, charge_end, raw_turns, raw_takes, raw_copies, raw_onward}
use Rattle.abt_runs.proofs.Charges.{raw_first, minus_zero, raw_next, no_more, no_more_than, none_added, none_behind}
use Rattle.abt_runs.proofs.Charges.{nothing_read}
use Rattle.abt_runs.proofs.raw.RawRuns.part_from.Goals as goal

-- no block is left
pub returns-then-from-self : goal.returns-then-from-self
returns-then-from-self g c =
    let self = c.args.self.now in
    let s = c.close_step.ensures in
    let w = c.requires.asks.within in
    let none : true ≡ false → ⊥ = true≢false in
    let fresh : 0 < c.args.from.used → ⊥ = λ used. omega (arith, w.used, used) in
    record {
      part = record {
        source = record { reads = reads_none _ g.S.Source _; cause = tt };
        told = λ models. record {
          part =
              let n = list_long c.args.is_tail_raw self.length self.blocks self.size _ self.some self.covers self.last
              (c.requires.asks.told models).0 in
              record {
                within = omega (arith, n, c.if-from-self.true);
                next = omega arith;
                all = refl;
                ended = λ _. omega (arith, n, c.if-from-self.true);
              };
          place = w;
          here_place = w;
          stands = λ kind. absurd cc;
          first = λ some. absurd (omega (arith, some));
          not_past = λ d within place at. omega arith;
        };
        found = record {
          within = w;
          here = (refl, w, own_size _);
          inside = own_size _;
          reached = λ kind. absurd cc;
          nowhere = λ _. refl;
          anew = charge_end self.length self.blocks self.size c.args.from c.if-from-self.true;
          moved = none_behind _;
          capped = record { raw = λ kind. omega arith };
          on = λ going. absurd (none going);
          stops = λ used. absurd (fresh used);
          goes_on = λ used. absurd (fresh used);
          at_end = λ end. (c.if-from-self.true, refl);
          charged = no_more _ _;
          takes = none_added _;
          copies = λ kind. absurd cc;
          onward = (own_size _, own_size _);
          filled_up = λ some. absurd (let last = (raw_padded self.blocks self.size c.args.from).1 some in omega
              (arith, last, c.if-from-self.true));
        };
        costs = nothing_read _ _ _ _ _ s.turns s.steps s.greatest;
      };
      asked = record {
        length = λ going. absurd (none going);
        fetched = λ going. absurd (none going);
        ended = λ end. refl;
      };
      most = no_more_than _ _ _;
    }

-- the blocks that are alike
pub returns : goal.returns
returns g c =
    let self = c.args.self.now in
    let from = c.args.from in
    let w = c.requires.asks.within in
    let f = c.load_filled-loaded.ensures.wanted in
    let l = c.leading-kind.ensures in
    let a = c.asked-asked.ensures in
    let n = c.after.ensures in
    let s = c.close_step-2.ensures in
    let asked = c.asked-asked.result in
    let blocks = c.leading-kind.result.1 in
    let at : c.place_of-at.result ≡ from.block * self.size = c.place_of-at.ensures.place in
    let below = c.place_of-at.ensures.within in
    let want : c.min-want.result ≡ min (asked * self.size) (self.length - from.block * self.size) = omega
    (arith, at, c.min-want.ensures) in
    let got : c.load_filled-loaded.result.received ≡ c.min-want.result = if_none c.load_filled-loaded.result.fault
    c.in_default.is f.whole in
    let capped : asked * self.size ≤ c.args.cap * self.size = mul-le-mul_right self.size a.capped in
    let window : asked * self.size ≤ from.ask * self.size = mul-le-mul_right self.size a.ask in
    let whole : 1 * self.size ≤ asked * self.size = mul-le-mul_right self.size
    (let z : 1 ≤ asked = omega (arith, a.some) in z) in
    let there : from.block < self.blocks = omega (arith, a.some, a.within) in
    let next = raw_next self.blocks self.size from c.after.result asked blocks w l.some l.within a.within self.window
    n.block n.used n.ask in
    let here : RawPlace self.blocks self.size (record from { ask = 1 }) = record {
      within = w.within;
      some = omega arith;
      window = omega (arith, self.window);
      passed = omega arith;
      used =
          w.used;
    } in
    let over : is_end c.leading-kind.result.0 ≡ true → ⊥ = λ end. true≢false (sym end ∙ l.goes) in
    let reach : blocks * self.size ≤ (self.blocks - from.block) * self.size = mul-le-mul_right self.size
    (let z : blocks ≤ self.blocks - from.block = omega (arith, l.within, a.within) in z) in
    record {
      part = record {
        source = record { reads = reads_ok _ (rw c.in_default.is at f.loads.reads); cause = tt };
        told = λ models. record {
          part =
              let x = g.S.Source.content c.args.source.now in
              let e = (c.requires.asks.told models).0 in
              let long = list_long c.args.is_tail_raw self.length self.blocks self.size x self.some self.covers
              self.last e in
              let read = c.part.ensures.value ∙ if_none c.load_filled-loaded.result.fault c.in_default.is
              (c.load_filled-loaded.ensures.bytes models) in
              record {
                within = omega (arith, long, l.within, a.within);
                next = n.block;
                all =
                    let cl = c.classed-classed.ensures.is in
                    let p = c.classed-classed.result in
                    read_all c.args.is_tail_raw c.leading-kind.result.0 self.size from.block blocks asked self.blocks
                    c.min-want.result c.place_of-at.result (asked * self.size) self.length x c.part.result.now
                    (nat_lt from.block p)
                    (raw_count self.length self.blocks self.size x self.some self.covers self.last e) e a.within
                    l.within
                    at (omega (arith, e, below)) (omega (arith, e, self.covers)) refl
                    (c.min-want.ensures ∙ ap (λ (j : ℕ). min (j - c.place_of-at.result) (asked * self.size)) e) read
                    (λ is. let y = ltb-true from.block p is in let z = a.classed y in omega (arith, z, cl))
                    (λ is. let y = ltb-false from.block p is in omega (arith, y, cl)) l.all l.raw;
                ended = never _ _ _ l.goes;
              };
          place = next;
          here_place = here;
          stands = λ kind. omega (arith, l.within, a.within);
          first = λ some d is le. (
            raw_onward self.length self.size c.after.result.block d.block le,
            raw_first
                self.length self.blocks self.size c.after.result d self.some self.covers self.last next le,
          );
          not_past = λ d within place past. omega (arith, l.within, a.capped);
        };
        found = record {
          within = next;
          here = (
            refl,
            here,
            charge_fresh self.length self.blocks self.size from (record from { ask = 1 }) there w.some
                refl refl,
          );
          inside = own_size _;
          reached = λ kind. reach;
          nowhere = λ none. absurd (omega (arith, l.some, none));
          anew = own_size _;
          moved = n.block;
          capped = record { raw = λ kind. omega (arith, l.within, a.capped) };
          on = λ _. omega (arith, n.block, l.some, there);
          stops = λ used. absurd (omega (arith, n.used, w.used, used));
          goes_on = λ used. absurd (omega (arith, w.used, used));
          at_end = λ end. absurd (over end);
          charged = let r = raw_charged self.length self.blocks self.size from c.after.result asked blocks
              c.min-want.result l.some l.within there a.within a.ask w.some w.passed self.covers self.last want n.block
              n.ask in
              omega (arith, r, got, f.loads.given);
          takes = raw_takes c.leading-kind.result.0 self.size from.used from.block blocks c.after.result.block l.some
              n.block;
          copies = λ kind. raw_copies self.length self.size from.block blocks c.after.result.block n.block;
          onward = (
            own_size _,
            raw_onward self.length self.size from.block c.after.result.block
                (omega (arith, n.block)),
          );
          filled_up = λ _. l.some;
        };
        costs = record {
          given = omega (arith, f.loads.given);
          received = omega (arith, f.loads.given, f.few, want, window, w.window);
          calls = omega (arith, f.loads.calls, f.loads.given);
          turns = let long : length c.part.result.now ≡ asked * self.size = c.part.ensures.long ∙ minus_zero
              (asked * self.size) in
              let t = c.leading-kind.new.m.turns.number - c.load_filled-loaded.new.m.turns.number in
              let r = raw_turns self.length self.blocks self.size from.block asked c.min-want.result t self.some
              self.words a.some a.within there self.last want (omega (arith, at, below))
              (omega (arith, l.turns, long, whole)) in
              omega (arith, r, got, s.turns, f.loads.turns, f.loads.given);
          one_step = record {
            steps = omega (arith, s.steps, l.no_step.steps, f.loads.no_step.steps);
            greatest = omega (arith, s.greatest, l.no_step.greatest, f.loads.no_step.greatest, f.loads.given);
          };
        };
      };
      asked = record {
        length = λ _. sym c.length.ensures.size ∙ c.if-length-self.false;
        fetched = λ _. omega (arith, got, whole, self.some, want, at, below, f.loads.given);
        ended = λ end. absurd (over end);
      };
      most = omega (arith, f.loads.given, f.few, want, capped);
    }
