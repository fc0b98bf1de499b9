use Rattle.std.proofs.Common.{arith, rules, ◌∙◌}
use Rattle.abt_runs.proofs.Classes.{leading_on, not_end}
use Rattle.abt_runs.proofs.raw.leading.Goals as goal

pub loop-count-preserved : goal.loop-count-preserved
loop-count-preserved c =
    let i = c.loop-count.invariant in
    let test = c.if-not-same_class.false in
    let same = c.same_class.ensures (search rules) in
    record {
      kind = i.kind;
      some = omega arith;
      within = omega arith;
      at = omega arith;
      all = leading_on c.args.size c.loop-count.count c.loop-count.at c.args.blocks.now c.equal_word-word.result i.at
          (not_end c.equal_word-word.result) i.all (same ∙ c.equal_word.ensures);
      turns = omega arith;
      looked = omega arith;
      no_step = record { steps = omega arith; greatest = omega arith };
    }
