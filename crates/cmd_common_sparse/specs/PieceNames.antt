-- Which paths are those of piece files.
use Rattle.std.specs.Prelude.{◌≡◌, ◌≤◌, ◌<◌, ◌-◌, ℕ, List, ◌∷◌, ◌++◌, All, length, Bool, if◌then◌else◌}
use Rattle.cmd_common_sparse.specs.declared.piece_files.PieceNaming.{PieceNaming}

-- a decimal digit
abbrev pub IsDigit : ℕ → Type 0
IsDigit byte = (48 ≤ byte) × (byte ≤ 57)

-- the prefix, a point, and one digit or more
abbrev pub IsPieceName : List ℕ → List ℕ → Type 0
IsPieceName prefix path =
    (digits : List ℕ) × (path ≡ prefix ++ (46 ∷ digits)) × (0 < length digits) × All IsDigit digits

-- ---- in turn

-- how piece files are named: after a prefix, by numbers from 1 on, or from 0 on
pub record Naming : Type 0 where
  pub prefix : List ℕ
  pub from_zero : Bool

abbrev pub naming : List ℕ → Bool → Naming
naming prefix from_zero = record { prefix = prefix; from_zero = from_zero }

abbrev pub naming_of : PieceNaming → Naming
naming_of names = naming names.prefix.now names.is_from_zero

-- the number of piece n, counted from 1
abbrev pub number_in_turn : Bool → ℕ → ℕ
number_in_turn from_zero n = if from_zero then n - 1 else n
