use Rattle.std.proofs.Common.{ℕ, List, [], Bor, inl, sym, subst, map, take, drop, ◌+◌}
use Rattle.words_tools.specs.Fragments.{AreParted, none}
use Rattle.words_tools.proofs.Parting.{words_more}
use Rattle.words_tools.proofs.Rejecting.{words_at}
use Rattle.words_tools.proofs.fragments.part_words.Goals as goal

pub loop-word-init : goal.loop-word-init
loop-word-init g c =
    subst (λ said. AreParted [] said (map (λ word. word.now) c.new-parted.result.others.items))
    (sym c.new-parted.ensures.said)
    (subst (λ (others : List (Bor (List ℕ))). AreParted [] [] (map (λ word. word.now) others))
    (sym c.new-parted.ensures.others) none)

pub loop-word-preserved : goal.loop-word-preserved
loop-word-preserved g c =
    let more = words_more g.S.AsStr.text c.args.words.now c.loop-word.word-index c.word-item.result
    c.as_str.result.now c.loop-word-test.true c.word-item.is c.as_str.ensures in
    rw (sym more) at (c.in-Ok.ensures.parting (take c.loop-word.word-index (map g.S.AsStr.text c.args.words.now))
    c.loop-word.invariant)

pub returns-in-Err-clause-refused : goal.returns-in-Err-clause-refused
returns-in-Err-clause-refused g c = λ is. inl (record {
  front = take c.loop-word.word-index (map g.S.AsStr.text c.args.words.now);
  word = c.as_str.result.now;
  behind = drop (c.loop-word.word-index + 1) (map g.S.AsStr.text c.args.words.now);
  words_are = words_at g.S.AsStr.text c.args.words.now c.loop-word.word-index c.word-item.result c.as_str.result.now
      c.loop-word-test.true c.word-item.is c.as_str.ensures;
  said = c.loop-word.parted.said.items;
  others = map (λ word. word.now) c.loop-word.parted.others.items;
  before = c.loop-word.before;
  parted = c.loop-word.invariant;
  rejects = c.in-Err.ensures.refused is;
})
