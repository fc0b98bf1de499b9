use Rattle.std.proofs.Common.{rules, ◌≡◌, ◌<◌, ◌≤◌, ◌∙◌, [], sym, ap, map, drop, length, get_or, arith}
use Rattle.std.specs.Prelude.{string_bytes}
use Rattle.std.proofs.lemmas.List.{append-nil, at_drop_all, get_or-map, length-map}
use Rattle.words_values.specs.WordFile.{expansion}
use Rattle.words_values.proofs.WordFiles.{one_word_more}
use Rattle.words_values.proofs.word_files.expanded.Goals as goal

pub loop-word-preserved : goal.loop-word-preserved
loop-word-preserved g c =
    let text = g.S.AsStr.text in
    let words = c.args.words.now in
    let i = c.loop-word.word-index in
    let here : i < length words = c.loop-word-test.true in
    let word : get_or (map text words) i [] ≡ c.as_str.result.now =
    get_or-map text words i c.word-item.result [] here ∙ ap text (sym c.word-item.is) ∙ sym c.as_str.ensures in
    one_word_more _ _ (map text words) i c.as_str.result.now (map string_bytes c.loop-word.left.now) _ _
    (omega (arith, length-map words text)) word c.in_ok-left.ensures.words c.in_ok-left.ensures.left
    c.loop-word.invariant

pub returns : goal.returns
returns g c =
    let text = g.S.AsStr.text in
    let words = c.args.words.now in
    let all : length (map text words) ≤ c.loop-word.word-index =
    omega (arith, length-map words text, c.loop-word-test.false) in
    let e = at_drop_all (λ ws. expansion ws (map string_bytes c.loop-word.left.now))
    (map text words) c.loop-word.word-index all in
    search (rules, e, c.loop-word.invariant, append-nil)
