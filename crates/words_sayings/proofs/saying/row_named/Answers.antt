use Rattle.std.proofs.Common.{◌∙◌, sym}
use Rattle.words_sayings.specs.Steps.{table_of}
use Rattle.words_sayings.specs.Rows.{shape_of}
use Rattle.words_sayings.specs.Words.{names_row, row_named}
use Rattle.words_sayings.proofs.Mapped.{found_later, found_now, found_nowhere}
use Rattle.words_sayings.proofs.saying.row_named.Goals as goal

pub returns-then-is_named : goal.returns-then-is_named
returns-then-is_named c =
    sym (found_now (λ row. shape_of row.now) (names_row c.args.is_short (table_of c.args.rows.now) c.args.said.now)
    c.args.rows.now c.loop-row.row-index _ c.loop-row-test.true
    (sym c.is_named.ensures ∙ c.if-is_named.true)) ∙ c.loop-row.invariant

pub loop-row-preserved : goal.loop-row-preserved
loop-row-preserved c =
    sym (found_later (λ row. shape_of row.now) (names_row c.args.is_short (table_of c.args.rows.now) c.args.said.now)
    c.args.rows.now c.loop-row.row-index _ c.loop-row-test.true
    (sym c.is_named.ensures ∙ c.if-is_named.false)) ∙ c.loop-row.invariant

pub returns : goal.returns
returns c =
    sym (found_nowhere (λ row. shape_of row.now) (names_row c.args.is_short (table_of c.args.rows.now)
    c.args.said.now) c.args.rows.now c.loop-row.row-index c.loop-row-test.false)
    ∙ c.loop-row.invariant
