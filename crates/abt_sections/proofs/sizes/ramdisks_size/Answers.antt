use Rattle.std.proofs.Common.{arith, ap, ◌∙◌}
use Rattle.std.proofs.lemmas.List.{take_all}
use Rattle.std.proofs.lemmas.List.Sums.{sum_by_more, sum_by_more_le}
use Rattle.abt_sections.specs.Cause.{total}
use Rattle.abt_sections.proofs.sizes.ramdisks_size.Goals as goal

pub returns-then-n-sum : goal.returns-then-n-sum
returns-then-n-sum g c =
    let f = g.S.Source.size in
    let n = c.length-n.ensures.size ∙ ap f c.index-ramdisks-i.is in
    omega (
      arith,
      sum_by_more_le f c.args.ramdisks.now c.loop-i.i c.index-ramdisks-i.result (omega arith),
      n,
      c.loop-i.invariant,
      c.if-n-sum.true,
    )

pub loop-i-preserved : goal.loop-i-preserved
loop-i-preserved g c =
    let f = g.S.Source.size in
    let n = c.length-n.ensures.size ∙ ap f c.index-ramdisks-i.is in
    omega (
      arith,
      sum_by_more f c.args.ramdisks.now c.loop-i.i c.index-ramdisks-i.result (omega arith),
      n,
      c.loop-i.invariant,
    )

pub returns : goal.returns
returns g c = c.loop-i.invariant ∙ ap (total g.S.Source.size) (take_all c.loop-i.i c.args.ramdisks.now (omega arith))
