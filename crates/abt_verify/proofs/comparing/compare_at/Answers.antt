use Rattle.std.proofs.Common.{rules, ◌≡◌, ◌+◌, ◌-◌, length, take, drop, arith, ◌∙◌, refl, min}
use Rattle.std.proofs.lemmas.List.{length-take-le}
use Rattle.abt_verify.proofs.Said.{all_there, first_half, first_there, second_half}
use Rattle.abt_verify.proofs.comparing.compare_at.Goals as goal

pub returns-then-same-n-clause-compares : goal.returns-then-same-n-clause-compares
returns-then-same-n-clause-compares g c = record {
  stands = search rules;
  differs = λ models.
      let w = c.args.w.now.bytes in
      let n = c.args.n in
      let o = c.read_full_at-got.ensures in
      let out = c.read_full_at-got.new.out in
      let count = c.read_full_at-got.result.count in
      let p = g.P.Source.content c.args.partition.now in
      let whole = c.is_whole.ensures in
      let asked : length out ≡ n = let v = c.part_mut.ensures.long in let a = c.read_full_at-got.auto.out in omega arith
      in
      let image : c.part.result.now ≡ take n w = c.part.ensures.value
      ∙ first_half n 32768 w out (drop (32768 + n) w) c.requires.half (omega arith) in
      let there : c.part-2.result.now ≡ take count (drop c.args.at p) = c.part-2.ensures.value
      ∙ second_half count 32768 w out (drop (32768 + n) w) o.within (omega arith) ∙ o.bytes models in
      let long : length (take n w) ≡ n = length-take-le n w (omega arith) in
      let all : count ≡ min (length (take n w)) (length p - c.args.at) = let q = o.all models (rw c.in-None.is refl) in
      omega (arith, q, asked, long) in
      first_there p (take n w) c.part.result.now c.part-2.result.now c.args.at c.alike-same.result count image there
      c.alike-same.ensures.within c.alike-same.ensures.same
      (omega (arith, long, c.if-same-n.true)) c.alike-same.ensures.other all;
  cause = search rules;
  partition = search rules;
}

pub returns-clause-compares : goal.returns-clause-compares
returns-clause-compares g c = record {
  stands = λ models.
      let w = c.args.w.now.bytes in
      let n = c.args.n in
      let o = c.read_full_at-got.ensures in
      let out = c.read_full_at-got.new.out in
      let count = c.read_full_at-got.result.count in
      let p = g.P.Source.content c.args.partition.now in
      let whole = c.is_whole.ensures in
      let image : c.part.result.now ≡ take n w = c.part.ensures.value
      ∙ first_half n 32768 w out (drop (32768 + n) w) c.requires.half (omega arith) in
      let there : c.part-2.result.now ≡ take count (drop c.args.at p) = c.part-2.ensures.value
      ∙ second_half count 32768 w out (drop (32768 + n) w) o.within (omega arith) ∙ o.bytes models in
      let long : length (take n w) ≡ n = length-take-le n w (omega arith) in
      all_there p (take n w) c.part.result.now c.part-2.result.now c.args.at c.alike-same.result count image there
      c.alike-same.ensures.within c.alike-same.ensures.same
      (omega (arith, long, c.if-same-n.false));
  differs = search rules;
  cause = search rules;
  partition = search rules;
}
