use Rattle.std.proofs.Common.{map, take}
use Rattle.words_tools.specs.Fragments.{AreParting}
use Rattle.words_tools.proofs.fragments.part_words.Given as goal

abbrev pub invariant-loop-word : goal.invariant-loop-word
invariant-loop-word g l =
    AreParting (take l.word-index (map g.S.AsStr.text l.words)) l.parted.said.items
    (map (λ word. word.now) l.parted.others.items) l.before
