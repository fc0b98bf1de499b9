use Rattle.std.proofs.Common.{◌∙◌, sym}
use Rattle.words_sayings.specs.Steps.{table_of}
use Rattle.words_sayings.specs.Rows.{shape_of}
use Rattle.words_sayings.specs.Words.{flag_of, is_letter}
use Rattle.words_sayings.proofs.Mapped.{found_later, found_now, found_nowhere}
use Rattle.words_sayings.proofs.saying.flag_of.Goals as goal

pub returns-then-is_letter : goal.returns-then-is_letter
returns-then-is_letter c =
    sym (found_now (λ row. shape_of row.now) (λ row. is_letter c.args.letter row.place) c.args.rows.now
    c.loop-row.row-index _ c.loop-row-test.true
    (sym c.is_letter.ensures ∙ c.if-is_letter.true)) ∙ c.loop-row.invariant

pub loop-row-preserved : goal.loop-row-preserved
loop-row-preserved c =
    sym (found_later (λ row. shape_of row.now) (λ row. is_letter c.args.letter row.place) c.args.rows.now
    c.loop-row.row-index _ c.loop-row-test.true
    (sym c.is_letter.ensures ∙ c.if-is_letter.false)) ∙ c.loop-row.invariant

pub returns : goal.returns
returns c =
    sym (found_nowhere (λ row. shape_of row.now) (λ row. is_letter c.args.letter row.place) c.args.rows.now
    c.loop-row.row-index c.loop-row-test.false)
    ∙ c.loop-row.invariant
