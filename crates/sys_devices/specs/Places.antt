-- Bytes at an offset of a file.
use Rattle.std.specs.Prelude.{◌≡◌, ◌≤◌, ◌-◌, ℕ, List, length, take, drop}

-- bytes that are in a file at an offset
pub record FoundAt (content : List ℕ) (at : ℕ) (bytes : List ℕ) : Type 0 where
  pub present : length bytes ≤ length content - at
  pub same : bytes ≡ take (length bytes) (drop at content)
