use Rattle.std.proofs.Common.{◌≡◌, ◌++◌, map, drop}
use Rattle.std.specs.Prelude.{string_bytes}
use Rattle.words_values.specs.WordFile.{expansion}
use Rattle.words_values.proofs.word_files.expanded.Given as goal

abbrev pub invariant-loop-word : goal.invariant-loop-word
invariant-loop-word g l =
    map (λ word. word.now) l.all.items ++ expansion (drop l.word-index (map g.S.AsStr.text l.words))
    (map string_bytes l.left)
    ≡ expansion (map g.S.AsStr.text l.words) (map string_bytes l.texts)
