use Rattle.std.proofs.Common.{arith, ◌≡◌, ◌∙◌, ◌∷◌, [], sym, ap, map, get_or}
use Rattle.std.specs.Prelude.{codes}
use Rattle.std.proofs.lemmas.List.{get_or-map, length-map}
use Rattle.std.proofs.lemmas.Slice.Eq.{bytes_eq-Decides}
use Rattle.words_tools.proofs.Behind.{third_on, two_first}
use Rattle.words_tools.proofs.tools.behind_as.Goals as goal

pub returns-in-len2-up-clause-some : goal.returns-in-len2-up-clause-some
returns-in-len2-up-clause-some g c =
    let text = g.S.AsStr.text in
    let words = c.args.words.now in
    let here : get_or (map text words) 1 [] ≡ codes "as" =
    get_or-map text words 1 c.word-item.result [] (omega (arith, c.in-len2-up.len_at_least))
    ∙ ap text (sym c.word-item.is) ∙ sym c.as_str.ensures
    ∙ (bytes_eq-Decides c.as_str.result.now (codes "as")).0 (sym c.eq.ensures ∙ c.if-eq.true) in (
      get_or (map text words) 0 [],
      two_first (map text words) (codes "as") (omega (arith, c.in-len2-up.len_at_least, length-map words text)) here
          ∙ ap (λ l. get_or (map text words) 0 [] ∷ (codes "as" ∷ l)) (sym (third_on text words)),
    )
