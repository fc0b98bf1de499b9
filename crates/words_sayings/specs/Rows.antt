-- The rows of a table: what each says of the words of its answers.
use Rattle.std.specs.Prelude.{ℕ, List, [], Bool, Option, Some, None, map, option_map}
use Rattle.words_values.specs.declared.rows.WordPlace.{WordPlace}
use Rattle.words_values.specs.declared.rows.Row.{Row}
use Rattle.words_values.specs.declared.rows.Value.{Value}
use Rattle.words_values.specs.declared.rows.Value.TheVariants as values

-- what a row says of the words of its answers
pub record Shape : Type 0 where
  pub name : List ℕ
  pub place : WordPlace
  -- the kind of its value, or the names that the value is one of
  pub value : Option Value
  pub names : List (List ℕ)
  pub default : Option (List ℕ)
  -- it must have an answer; the row that must have one too, and the row that must not
  pub required : Bool
  pub needs : Option (List ℕ)
  pub excludes : Option (List ℕ)

abbrev pub plain_value : Value → Option Value
plain_value (values.Name names) = None
plain_value value = Some value

abbrev pub names_in : Value → List (List ℕ)
names_in (values.Name names) = map (λ s. s.now) names.now
names_in value = []

abbrev pub shape_of : Row → Shape
shape_of row = record {
  name = row.name.now;
  place = row.place;
  value = plain_value row.value;
  names = names_in row.value;
  default = option_map (λ s. s.now) row.default;
  required = row.is_required;
  needs = option_map (λ s. s.now) row.needs;
  excludes = option_map (λ s. s.now) row.excludes;
}
