use Rattle.std.proofs.Common.{◌++◌, ◌==◌, ◌∙◌, not, ℕ, List, ap, length, map}
use Rattle.std.specs.List.{filter}
use Rattle.std.proofs.lemmas.Iterator.Splits.{YieldsList-from_lines}
use Rattle.std.proofs.lemmas.Iterator.Consumers.{YieldsList-at, YieldsList-end}
use Rattle.words_values.proofs.word_files.push_lines.Goals as goal

-- the loop has seen just the lines of the text
pub returns : goal.returns
returns c =
    let seen = YieldsList-end
    (YieldsList-at c.into_iter-line-iterator.ensures.into_iter_gives
    (YieldsList-from_lines c.args.text.now c.lines-line-items.ensures.rest))
    c.loop-line.yielded _ c.loop-line.yielded_by _ _ c.in-None.is c.next.ensures.steps in
    c.loop-line.invariant
    ∙ ap (λ (ls : List (List ℕ)). map (λ it. it.now) c.args.words.now.items
    ++ filter (λ line. not (length line == 0)) ls) seen.0
