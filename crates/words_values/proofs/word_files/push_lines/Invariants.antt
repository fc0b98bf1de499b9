use Rattle.std.proofs.Common.{◌≡◌, ◌++◌, ◌==◌, not, length, map}
use Rattle.std.specs.List.{filter}
use Rattle.words_values.proofs.word_files.push_lines.Given as goal

abbrev pub invariant-loop-line : goal.invariant-loop-line
invariant-loop-line l =
    map (λ it. it.now) l.words.items
    ≡ map (λ it. it.now) l.initial.words.items ++ filter (λ line. not (length line == 0)) (map (λ it. it.now) l.yielded)
