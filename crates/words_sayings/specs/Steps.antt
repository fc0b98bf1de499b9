-- The steps of the program's own reader, beside those of the words.
use Rattle.std.specs.Prelude.{◌≡◌, ◌++◌, ℕ, List, Option, Some, None, option_map, map}
use Rattle.std.specs.Borrow.{Bor}
use Rattle.words_values.specs.declared.rows.Row.{Row}
use Rattle.words_sayings.specs.declared.saying.Form.{Form}
use Rattle.words_sayings.specs.declared.saying.Form.TheVariants as forms
use Rattle.words_sayings.specs.declared.saying.State.{State}
use Rattle.words_sayings.specs.declared.saying.State.TheVariants as states
use Rattle.words_sayings.specs.Rows.{Shape, shape_of}
use Rattle.words_sayings.specs.Words.{Before, Look, Saying, Step, awaiting, letters, long, nothing, plain, stop}
use Rattle.words_sayings.specs.Words.{stopped}

abbrev pub look_of : Form → Look
look_of forms.Plain = plain
look_of forms.Stop = stop
look_of (forms.Long name value) = long name.now (option_map (λ s. s.now) value)
look_of (forms.Letters text) = letters text.now

abbrev pub before_of : State → Before
before_of states.Nothing = nothing
before_of (states.Awaiting row) = awaiting (shape_of row.now)
before_of states.Stopped = stopped

-- the rows of a table
abbrev pub table_of : List (Bor Row) → List Shape
table_of rows = map (λ row. shape_of row.now) rows

-- what is said before and after a step; none if a word says nothing
abbrev pub Steps : Option Step → Option State → List Saying → List Saying → Type 0
Steps None None old new = Unit {0}
Steps (Some s) (Some next) old new = (new ≡ old ++ s.said) × (before_of next ≡ s.next)
Steps s next old new = ⊥
