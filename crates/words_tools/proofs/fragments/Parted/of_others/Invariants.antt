use Rattle.std.proofs.Common.{◌≡◌, [], map, take}
use Rattle.words_tools.proofs.fragments.Parted.of_others.Given as goal

abbrev pub invariant-loop-word : goal.invariant-loop-word
invariant-loop-word g l = record {
  said : l.parted.said.items ≡ [];
  others : map (λ word. word.now) l.parted.others.items ≡ take l.word-index (map g.S.AsStr.text l.words);
}
