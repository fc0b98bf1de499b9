-- Numbered files that are left over, after those that were written.
use Rattle.std.specs.Prelude.{◌≡◌, ◌≢◌, ℕ, ◌<◌, ◌^◌, List, Option, Some, None}
use Rattle.sys_refusals.specs.declared.place.FileArg.{FileArg}
use Rattle.sys_refusals.specs.Paths.{path_of}

-- the path of a place with this number after it
abbrev pub path_with : FileArg → ℕ → List ℕ
path_with p n = path_of (record p { number = Some n })

-- the least number of 32 bits above this one at which a file exists
abbrev pub IsNextLeft : (ℕ → Option ℕ) → ℕ → Option ℕ → Type 0
IsNextLeft at behind None = (n : ℕ) → behind < n → n < 2 ^ 32 → at n ≡ None
IsNextLeft at behind (Some k) =
    (behind < k) × ((k < 2 ^ 32) × ((at k ≢ None) × ((n : ℕ) → behind < n → n < k → at n ≡ None)))
