use Rattle.std.proofs.Common.{◌∙◌, sym, map}
use Rattle.words_sayings.specs.Rows.{shape_of}
use Rattle.words_sayings.specs.Words.{is_only}
use Rattle.words_sayings.proofs.Mapped.{all_fail, all_later, all_pass}
use Rattle.words_sayings.proofs.saying.is_only.Goals as goal

pub returns-then-not-is_this : goal.returns-then-not-is_this
returns-then-not-is_this c =
    sym (all_fail (λ row. shape_of row.now) (is_only c.args.short.now c.args.name.now) c.args.rows.now
    c.loop-row.row-index _ c.loop-row-test.true
    (sym c.is_this.ensures ∙ c.if-not-is_this.true)) ∙ c.loop-row.invariant

pub loop-row-preserved : goal.loop-row-preserved
loop-row-preserved c =
    sym (all_later (λ row. shape_of row.now) (is_only c.args.short.now c.args.name.now) c.args.rows.now
    c.loop-row.row-index _ c.loop-row-test.true
    (sym c.is_this.ensures ∙ c.if-not-is_this.false)) ∙ c.loop-row.invariant

pub returns : goal.returns
returns c =
    sym (all_pass (λ row. shape_of row.now) (is_only c.args.short.now c.args.name.now) c.args.rows.now
    c.loop-row.row-index c.loop-row-test.false)
    ∙ c.loop-row.invariant
