use Rattle.std.proofs.Common.{◌∙◌, sym, map}
use Rattle.words_sayings.specs.Rows.{shape_of}
use Rattle.words_sayings.specs.Words.{is_once, saying_of}
use Rattle.words_sayings.proofs.Mapped.{all_fail, all_later, all_pass}
use Rattle.words_sayings.proofs.saying.are_once.Goals as goal

pub returns-then-not-is_once : goal.returns-then-not-is_once
returns-then-not-is_once c =
    sym (all_fail (λ row. shape_of row.now) (is_once (map saying_of c.args.said.now)) c.args.rows.now
    c.loop-row.row-index _ c.loop-row-test.true
    (sym c.is_once.ensures ∙ c.if-not-is_once.true)) ∙ c.loop-row.invariant

pub loop-row-preserved : goal.loop-row-preserved
loop-row-preserved c =
    sym (all_later (λ row. shape_of row.now) (is_once (map saying_of c.args.said.now)) c.args.rows.now
    c.loop-row.row-index _ c.loop-row-test.true
    (sym c.is_once.ensures ∙ c.if-not-is_once.false)) ∙ c.loop-row.invariant

pub returns : goal.returns
returns c =
    sym (all_pass (λ row. shape_of row.now) (is_once (map saying_of c.args.said.now)) c.args.rows.now
    c.loop-row.row-index c.loop-row-test.false)
    ∙ c.loop-row.invariant
