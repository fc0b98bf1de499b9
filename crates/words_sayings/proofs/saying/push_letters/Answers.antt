use Rattle.std.proofs.Common.{◌≡◌, ◌∙◌, ap, sym, map}
use Rattle.std.specs.Prelude.{◌==◌, true}
use Rattle.std.specs.List.{starts_with}
use Rattle.words_sayings.specs.Steps.{table_of}
use Rattle.words_sayings.specs.Rows.{shape_of}
use Rattle.words_sayings.specs.Words.{begins_with, is_lettered, letter_value}
use Rattle.words_sayings.proofs.Mapped.{both_right, found_passes}
use Rattle.words_sayings.proofs.saying.push_letters.Goals as goal

pub returns-in-Some : goal.returns-in-Some
returns-in-Some c =
    let row = shape_of c.in-Some.row.now in
    let passes : begins_with c.args.text.now row ≡ true =
    found_passes (begins_with c.args.text.now) (table_of c.args.rows.now) row c.in-Some.ensures in
    let starts : starts_with ◌==◌ c.args.text.now row.name ≡ true =
    both_right (is_lettered row.place) (starts_with ◌==◌ c.args.text.now row.name) passes in
    rw (← c.in-Some.ensures)
    (rw (c.letter_value.ensures ∙ ap letter_value (c.behind.ensures starts)) at c.push_lettered.ensures)
