use Rattle.std.proofs.Common.{inl, inr, map, subst}
use Rattle.std.specs.Prelude.{codes}
use Rattle.words_sayings.specs.Rows.{shape_of}
use Rattle.words_tools.specs.Rejected.{HasHyphenValue}
use Rattle.words_tools.proofs.Rejecting.{hyphen_at, word_in}
use Rattle.words_tools.proofs.hyphens.has_hyphens.Goals as goal

pub returns-then-is_stop : goal.returns-then-is_stop
returns-then-is_stop g c = λ _.
    let stop = c.is_stop.ensures c.if-is_stop.true in
    inr (
      stop.0,
      word_in g.S.AsStr.text c.args.words.now c.loop-i.i c.index-words-i.result c.as_str.result.now (codes "--")
          c.loop-i-test.true c.index-words-i.is c.as_str.ensures stop.1,
    )

pub returns-then-is_some : goal.returns-then-is_some
returns-then-is_some g c = λ _.
    let words = map g.S.AsStr.text c.args.words.now in
    inl (subst (λ t. HasHyphenValue t words) c.rows-rows.ensures
    (hyphen_at g.S.AsStr.text c.args.words.now c.loop-i.i c.index-words-i-in-loop-i.result
    c.index-words-i-then-awaits_value.result c.as_str-in-loop-i.result.now c.as_str-then-awaits_value.result.now
    (map shape_of c.rows-rows.result.now) c.behind_hyphen.result c.is_some.result c.loop-i.auto.i c.loop-i-test.true
    c.index-words-i-in-loop-i.is c.as_str-in-loop-i.ensures c.index-words-i-then-awaits_value.is
    c.as_str-then-awaits_value.ensures (c.awaits_value.ensures c.if-awaits_value.true) c.behind_hyphen.ensures
    c.is_some.ensures c.if-is_some.true))
