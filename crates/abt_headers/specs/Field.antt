-- The fields of records.
use Rattle.std.specs.Prelude.{ℕ, List, [], ◌∷◌, ◌++◌, take, drop}
use Rattle.byteorder.specs.Endian.{little_number}

-- the number in n bytes at a place
abbrev pub number_at : ℕ → ℕ → List ℕ → ℕ
number_at place n bytes = little_number n (drop place bytes)

-- the n bytes at a place
abbrev pub part_at : ℕ → ℕ → List ℕ → List ℕ
part_at place n bytes = take n (drop place bytes)

-- fields one after another
abbrev pub joined_fields : List (List ℕ) → List ℕ
joined_fields [] = []
joined_fields (f ∷ fs) = f ++ joined_fields fs
