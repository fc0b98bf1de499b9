use Rattle.std.proofs.Common.{◌≡◌, ◌∙◌, ◌∷◌, sym, ap, map}
use Rattle.words_sayings.proofs.InTurn.{run_broken, run_more}
use Rattle.words_sayings.proofs.saying.is_run.Goals as goal

pub returns-then-not-goes_on : goal.returns-then-not-goes_on
returns-then-not-goes_on g c =
    let text = g.S.AsStr.text in
    let rest = map text c.in-Some.rest.now in
    let words : map text c.loop-word.left.now ≡ c.as_str-text.result.now ∷ rest =
    ap (map text) c.in-Some.ensures.cases.0 ∙ ap (λ w. w ∷ rest) (sym c.as_str-text.ensures) in
    run_broken c.loop-word.is_ended c.as_str-text.result.now rest (map text c.loop-word.left.now) words
    (sym c.goes_on.ensures ∙ c.if-not-goes_on.true) ∙ c.loop-word.invariant

pub loop-word-preserved : goal.loop-word-preserved
loop-word-preserved g c =
    let text = g.S.AsStr.text in
    let rest = map text c.in-Some.rest.now in
    let words : map text c.loop-word.left.now ≡ c.as_str-text.result.now ∷ rest =
    ap (map text) c.in-Some.ensures.cases.0 ∙ ap (λ w. w ∷ rest) (sym c.as_str-text.ensures) in
    rw c.is_ended_behind-is_ended.ensures
    (run_more c.loop-word.is_ended c.as_str-text.result.now rest (map text c.loop-word.left.now) words
    (sym c.goes_on.ensures ∙ c.if-not-goes_on.false) ∙ c.loop-word.invariant)
