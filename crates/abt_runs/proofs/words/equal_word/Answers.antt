use Rattle.std.proofs.Common.{arith, ◌∙◌, sym, ap, List, ℕ, replicate}
use Rattle.std.specs.List.{concat}
use Rattle.abt_runs.proofs.AllWords.{all-next, all-not}
use Rattle.abt_runs.proofs.Lanes.{lanes_next, lanes_not}
use Rattle.abt_runs.proofs.words.equal_word.Goals as goal

pub returns-then-not-same : goal.returns-then-not-same
returns-then-not-same c =
    lanes_not c.loop-at.at c.args.block.now c.lanes_of-pattern.result _ _ _ _ c.loop-at.invariant.whole
    (omega arith) c.requires.words (c.lanes_of-pattern.ensures
    ∙ ap (λ (w : List ℕ). concat (replicate 8 w)) c.loop-at.invariant.word)
    c.are_lanes.ensures c.are_lanes-in-loop-at.ensures c.are_lanes-in-loop-at-2.ensures
    c.are_lanes-in-loop-at-3.ensures c.if-not-same.true

pub loop-at-preserved : goal.loop-at-preserved
loop-at-preserved c = record {
  word = c.loop-at.invariant.word;
  within = omega arith;
  whole = omega arith;
  all = lanes_next _ c.loop-at.at c.args.block.now c.lanes_of-pattern.result _ _ _ _ c.loop-at.invariant.word
      c.loop-at.invariant.whole (omega arith) c.lanes_of-pattern.ensures
      c.are_lanes.ensures c.are_lanes-in-loop-at.ensures c.are_lanes-in-loop-at-2.ensures
      c.are_lanes-in-loop-at-3.ensures c.loop-at.invariant.all c.if-not-same.false;
}

pub returns-then-ne : goal.returns-then-ne
returns-then-ne c = all-not c.args.block.now c.loop-at-2.at c.loop-at-2.invariant.whole (omega arith) c.requires.words
    (rw c.loop-at-2.invariant.word at (sym c.ne.ensures ∙ c.if-ne.true))

pub loop-at-2-preserved : goal.loop-at-2-preserved
loop-at-2-preserved c = record {
  word = c.loop-at-2.invariant.word;
  within = omega arith;
  whole = omega arith;
  all = all-next _ c.args.block.now c.loop-at-2.at c.loop-at-2.invariant.whole c.loop-at-2.invariant.all
      (sym c.ne.ensures ∙ c.if-ne.false);
}
