use Rattle.std.proofs.Common.{◌≡◌, ◌++◌, ℕ, List, length, take, drop, arith, ap, subst, ◌∙◌, sym}
use Rattle.std.specs.Prelude.{IfNone}
use Rattle.std.proofs.lemmas.List.{take-append-le}
use Rattle.abt_chunks.specs.Ahead.{somes}
use Rattle.abt_chunks.specs.Places.{from_place}
use Rattle.abt_verify.specs.Standing.{Stands}
use Rattle.abt_verify.proofs.RawSteps.{all_came}
use Rattle.abt_verify.proofs.raw_verifier.compare_piece.Goals as goal

pub returns-in-None-clause-stands : goal.returns-in-None-clause-stands
returns-in-None-clause-stands g c models there =
    let n = c.args.n in
    let w = c.args.w.now.bytes in
    let x = drop c.args.at (g.S.Source.content c.args.source.now) in
    let o = c.read_full_at-got.ensures in
    let out = c.read_full_at-got.new.out in
    let count = c.read_full_at-got.result.count in
    let asked : length out ≡ n = let v = c.part_mut.ensures.long in let a = c.read_full_at-got.auto.out in omega arith
    in
    let full : n ≡ count = let q = all_came c.read_full_at-got.result.fault count n c.in-None.ensures in omega (
      arith,
      q,
      asked,
      o.within,
    ) in
    let same : take n (out ++ drop n w) ≡ take n x =
    take-append-le n out (drop n w) (omega (arith, asked)) ∙ ap (λ (k : ℕ). take k out) full ∙ o.bytes models
    ∙ ap (λ (k : ℕ). take k x) (sym full) in
    subst (λ (l : List ℕ). IfNone c.compare_at-done.result.fault (Stands (g.P.Source.content c.args.partition.now)
    (from_place c.args.at (somes l)))) same (c.compare_at-done.ensures.compares.stands there)
