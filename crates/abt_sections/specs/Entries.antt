-- The entries of a table at the beginning of a buffer.
use Rattle.std.specs.Prelude.{◌≡◌, ℕ, ◌+◌, ◌-◌, ◌*◌, ◌≤◌, ◌<◌, List, take, drop}

-- bytes begin with the entries from `first` up to `end` of a table that begins at a place of x
abbrev pub EntriesStand : List ℕ → List ℕ → ℕ → ℕ → ℕ → Type 0
EntriesStand bytes x at first end =
    take (108 * (end - first)) bytes ≡ take (108 * (end - first)) (drop (at + 108 * first) x)

-- Entry i of so many is asked for next, where the entries from `first` up to `end` are at hand: those before it, or it
-- is one of them, and they fit a window.
pub record ComesNext (first end i count : ℕ) : Type 0 where
  pub from : first ≤ i
  pub to : i ≤ end
  pub few : end ≤ first + 606
  pub last : end ≤ count

-- entry i is one of them, and they fit a window
pub record HoldsEntry (first end i count : ℕ) : Type 0 where
  pub from : first ≤ i
  pub to : i < end
  pub few : end ≤ first + 606
  pub last : end ≤ count
