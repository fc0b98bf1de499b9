use Rattle.std.proofs.Common.{rules, ◌≡◌, ◌≤◌, ◌<◌, ℕ, List, length, ◌-◌, take, drop, ◌++◌, arith, ap, ◌∙◌, subst}
use Rattle.std.proofs.Common.{refl, min}
use Rattle.std.proofs.Common.{length-take, length-drop}
use Rattle.std.proofs.lemmas.List.{drop_all, take-append-le}
use Rattle.abt_chunks.specs.Parts.{Says}
use Rattle.abt_chunks.specs.ListingAhead.{ShowsPart}
use Rattle.abt_chunks.specs.Turns.{ask_of, needed_of}
use Rattle.abt_chunks.proofs.Turns.{told, needed_asked, needed_room}
use Rattle.abt_chunks.proofs.Causes.{asks_none}
use Rattle.abt_chunks.proofs.Causes.{asked_wanted}
use Rattle.abt_chunks.proofs.Listed.{lists}
use Rattle.abt_chunks.proofs.walk.Walk.part_within.Goals as goal
use Rattle.abt_chunks.proofs.walk.Walk.part_within.Goals.{in-Some, in-None}

pub returns-clause-gives : goal.returns-clause-gives
returns-clause-gives g c = record {
  window = λ models.
      let o = c.read_full-got.ensures in
      take-append-le c.read_full-got.result.count c.read_full-got.new.out (drop c.min-ask.result c.args.w.now.bytes)
      o.within ∙ o.bytes models;
  told = λ models. elim c.match-got.branch [
    | in-Some w ↦ rw (w.part-is, w.fail-part.ensures.part) (record { says = λ t e. tt; lists = λ t e. tt })
    | in-None w ↦
        let s = c.args.self.now in
        let h = w.take-part.ensures in
        let o = c.read_full-got.ensures in
        let n = c.read_full-got.result.count in
        let rem = g.I.Input.remaining c.args.input.now in
        let got_is : w.part.result.now ≡ take n rem = w.part.ensures.value
        ∙ ap (λ (j : ℕ). take j (c.read_full-got.new.out ++ drop c.min-ask.result c.args.w.now.bytes))
        (let z : n - 0 ≡ n = omega arith in z)
        ∙ take-append-le n c.read_full-got.new.out (drop c.min-ask.result c.args.w.now.bytes) o.within
        ∙ o.bytes models in
        let all : n ≡ min (length c.read_full-got.new.out) (length rem) = o.all models (rw w.in-None.is refl) in
        let asked : length c.read_full-got.new.out ≡ min (ask_of c.turn-turn.result s) c.args.most =
        let a = c.read_full-got.auto.out in
        let v = ap length c.part_mut.ensures.value in
        omega (
          arith,
          a,
          v,
          c.ask-wish.ensures.value,
          c.ask-wish.ensures.room,
          c.min-ask.ensures,
          length-take (c.min-ask.result - 0) (drop 0 c.args.w.now.bytes),
          length-drop 0 c.args.w.now.bytes,
          c.is_whole.ensures,
        ) in
        let short = λ (k : length w.part.result.now < needed_of c.turn-turn.result). let le : length rem ≤ n = omega (
          arith,
          all,
          asked,
          needed_room c.turn-turn.result,
          needed_asked c.turn-turn.result s c.turn-turn.ensures,
          ap length got_is,
          length-take n rem,
          o.forward.present models,
        ) in le in
        rw (w.part-is, w.self-is) (record {
          says = λ t e. told w.take-part.result s w.take-part.new.self (take n rem) t
              (subst (λ (l : List ℕ). Says w.take-part.result s w.take-part.new.self l t) got_is
              (h.told.says t (λ k. e (h.told.short k) ∙ o.forward.rest models ∙ drop_all n rem (short k))));
          lists = λ t e. lists w.take-part.result s w.take-part.new.self (take n rem) t
              (subst (λ (l : List ℕ). ShowsPart w.take-part.result s w.take-part.new.self l t) got_is
              (h.told.lists t (λ k. e (h.told.short k) ∙ o.forward.rest models ∙ drop_all n rem (short k))));
        })
  ];
  words = search rules;
}

pub returns-clause-step : goal.returns-clause-step
returns-clause-step g c = record {
  input =
      let o = c.read_full-got.ensures in
      let asked : length c.read_full-got.new.out ≡ min (ask_of c.turn-turn.result c.args.self.now) c.args.most =
      let a = c.read_full-got.auto.out in
      let v = ap length c.part_mut.ensures.value in
      omega (
        arith,
        a,
        v,
        c.ask-wish.ensures.value,
        c.ask-wish.ensures.room,
        c.min-ask.ensures,
        length-take (c.min-ask.result - 0) (drop 0 c.args.w.now.bytes),
        length-drop 0 c.args.w.now.bytes,
        c.is_whole.ensures,
      ) in
      record {
        received = o.forward.given;
        small = omega (arith, asked, o.within);
        wanted = omega (arith, asked, o.within, asked_wanted c.turn-turn.result c.args.self.now c.turn-turn.ensures);
        input = search rules;
        reads = o.costs.reads;
      };
  turn = search rules;
  blame = search rules;
  over = λ over.
      let none : length c.part_mut.result.now ≡ 0 = omega (
        arith,
        c.part_mut.ensures.long,
        c.min-ask.ensures,
        c.ask-wish.ensures.value,
        asks_none c.turn-turn.result c.args.self.now c.turn-turn.ensures over,
      ) in
      let same = c.read_full-got.ensures.none none in
      elim c.match-got.branch [
        | in-Some w ↦ absurd (omega
            (arith, rw w.in-Some.is at c.read_full-got.ensures.forward.cause, ap g.I.Input.read_faults same))
        | in-None w ↦ (rw w.self-is (w.take-part.ensures.over over), same)
      ];
  meter = search rules;
}
