use Rattle.std.proofs.Common.{rules, ◌≡◌, ◌≤◌, ◌<◌, length, ◌-◌, take, drop, arith, ap, ◌∙◌, refl, length-take}
use Rattle.std.proofs.Common.{length-drop, min}
use Rattle.std.proofs.lemmas.List.{drop_all, length-take-le}
use Rattle.abt_chunks.proofs.Listed.{lists}
use Rattle.abt_chunks.proofs.listing.pass_raw.Goals as goal
use Rattle.abt_chunks.proofs.listing.pass_raw.Goals.{in-Some, in-None}

pub returns-clause-taken : goal.returns-clause-taken
returns-clause-taken g c = record {
  step = search rules;
  lists = λ models t e. elim c.match-got.branch [
    | in-Some w ↦ rw (w.part-is, w.fail-part.ensures.part) tt
    | in-None w ↦
        let h = w.take_raw-part.ensures in
        let o = c.pass_full-got.ensures in
        let n = c.pass_full-got.result.count in
        let rem = g.I.Input.remaining c.args.input.now in
        let all : n ≡ min (length c.pass_full-got.new.room) (length rem) = o.all models (rw w.in-None.is refl) in
        let asked : length c.pass_full-got.new.room ≡ min c.args.walk.now.raw 65536 =
        let a = c.pass_full-got.auto.room in
        let v = ap length c.part_mut.ensures.value in
        omega (
          arith,
          a,
          v,
          c.ask-ask.ensures.value,
          c.ask-ask.ensures.room,
          length-take (c.ask-ask.result - 0) (drop 0 c.args.w.now.bytes),
          length-drop 0 c.args.w.now.bytes,
          c.is_whole.ensures,
        ) in
        let told = h.told (take n rem) (length-take-le n rem (o.forward.present models)) in
        let ended = λ (k : length (take n rem) < 1).
        let short : length rem ≤ n = omega (
          arith,
          all,
          asked,
          c.requires.3,
          o.forward.present models,
          k,
          length-take n
              rem,
        ) in
        e (rw w.part-is (told.short k)) ∙ o.forward.rest models ∙ drop_all n rem short in
        rw (w.part-is, w.walk-is)
        (lists w.take_raw-part.result c.args.walk.now w.take_raw-part.new.self (take n rem) t (told.lists t ended))
  ];
}
