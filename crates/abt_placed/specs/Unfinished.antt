-- Bytes that are no image, and bytes that stay unchanged.
use Rattle.std.specs.Prelude.{◌≡◌, ℕ, ◌≤◌, List, [], ◌++◌, length, take}
use Rattle.abt_sparse.specs.declared.fault.SparseFault.{SparseFault}
use Rattle.abt_sparse.specs.Reading.{outcome, Fault}
use Rattle.abt_sparse.specs.Field.{number_at}

-- whatever follows, no reader finds an image, and none gives a byte of one
abbrev pub IsNoImage : List ℕ → Type 0
IsNoImage x = (y : List ℕ) → (f : SparseFault) × (outcome (x ++ y) ≡ Fault f [])

-- whatever follows, the magic number is not at the beginning
abbrev pub IsUnfinished : List ℕ → Type 0
IsUnfinished x = (y : List ℕ) → number_at 0 4 (x ++ y) ≡ 0xED26FF3A → ⊥

-- the first n bytes are as they were
pub record KeepsFront (n : ℕ) (w w' : List ℕ) : Type 0 where
  pub front : take n w' ≡ take n w
  pub long : length w ≤ length w'
