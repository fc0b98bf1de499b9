use Rattle.std.proofs.Common.{◌∙◌, sym, ap, map, take}
use Rattle.std.proofs.lemmas.List.{length-map, take-map}
use Rattle.words_sayings.specs.Words.{words_due}
use Rattle.words_orders.proofs.answers.next_words.Goals as goal

pub returns : goal.returns
returns c =
    sym (take-map (λ s. s.now) c.count_of.result c.args.placed.now)
    ∙ ap (λ n. take n (map (λ s. s.now) c.args.placed.now)) (c.count_of.ensures.count
    ∙ ap (words_due c.args.place) (sym (length-map c.args.placed.now (λ s. s.now))))
