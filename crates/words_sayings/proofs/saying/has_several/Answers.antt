use Rattle.std.proofs.Common.{◌∙◌, sym}
use Rattle.words_sayings.specs.Rows.{shape_of}
use Rattle.words_sayings.specs.Words.{is_several}
use Rattle.words_sayings.proofs.Mapped.{any_later, any_now, any_nowhere}
use Rattle.words_sayings.proofs.saying.has_several.Goals as goal

pub returns-then-is_several : goal.returns-then-is_several
returns-then-is_several c =
    sym (any_now (λ row. shape_of row.now) (λ row. is_several row.place) c.args.rows.now c.loop-row.row-index _
    c.loop-row-test.true (sym c.is_several.ensures ∙ c.if-is_several.true)) ∙ c.loop-row.invariant

pub loop-row-preserved : goal.loop-row-preserved
loop-row-preserved c =
    sym (any_later (λ row. shape_of row.now) (λ row. is_several row.place) c.args.rows.now c.loop-row.row-index _
    c.loop-row-test.true (sym c.is_several.ensures ∙ c.if-is_several.false)) ∙ c.loop-row.invariant

pub returns : goal.returns
returns c =
    sym (any_nowhere (λ row. shape_of row.now) (λ row. is_several row.place) c.args.rows.now c.loop-row.row-index
    c.loop-row-test.false) ∙ c.loop-row.invariant
