-- The number that a word gives to a row.
use Rattle.std.specs.Prelude.{◌≡◌, ◌≤◌, ℕ, List, Bool, true, Option, Some, None, bytes_eq, IsTrue, map, nat_le}
use Rattle.std.specs.List.{list_any}
use Rattle.words_values.specs.declared.rows.Value.{Value}
use Rattle.words_values.specs.declared.rows.Value.TheVariants as values
use Rattle.words_values.specs.NumberWord.{IsRead}
use Rattle.words_sayings.specs.Rows.{Shape}
use Rattle.words_sayings.specs.Words.{Saying}

-- the least that a count may be
abbrev pub least_of : Value → ℕ
least_of (values.Count least) = least
least_of value = 0

-- the number that a word gives to a value of this kind, at least the least one; 0 if it is one of these names
abbrev pub IsReadBy : Option Value → List (List ℕ) → List ℕ → ℕ → Type 0
IsReadBy None names word n = IsTrue (list_any (bytes_eq word) names) × (n ≡ 0)
IsReadBy (Some value) names word n = IsRead value word n × (least_of value ≤ n)

abbrev pub IsReadFor : Shape → List ℕ → ℕ → Type 0
IsReadFor row word n = IsReadBy row.value row.names word n

-- a word of a row that gives it a number
abbrev pub IsReadOf : Option Shape → List ℕ → ℕ → Type 0
IsReadOf None word n = ⊥
IsReadOf (Some row) word n = IsReadFor row word n

abbrev pub CanBeRead : Saying → Type 0
CanBeRead s = (n : ℕ) × IsReadOf s.row s.word n

-- whether a value is one of its names, or a count is large enough
abbrev pub takes : Value → List ℕ → ℕ → Bool
takes (values.Name names) word n = list_any (bytes_eq word) (map (λ s. s.now) names.now)
takes (values.Count least) word n = nat_le least n
takes value word n = true
