use Rattle.std.proofs.Common.{◌∙◌, ◌-◌, arith, sym, ap, map, drop, length}
use Rattle.std.proofs.lemmas.List.{drop-map, length-drop, length-map, take_all}
use Rattle.words_sayings.specs.Words.{words_due}
use Rattle.words_orders.proofs.answers.later_words.Goals as goal

pub returns : goal.returns
returns c =
    let placed = c.args.placed.now in
    let n = c.count_of.result in
    ap (map (λ s. s.now)) (take_all (length placed - n) (drop n placed) (omega (arith, length-drop n placed)))
    ∙ sym (drop-map (λ s. s.now) n placed)
    ∙ ap (λ k. drop k (map (λ s. s.now) placed)) (c.count_of.ensures.count
    ∙ ap (words_due c.args.place) (sym (length-map placed (λ s. s.now))))
