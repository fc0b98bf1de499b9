-- The numbered files of a folder, and which of their names were returned.
use Rattle.std.specs.Prelude.{◌≡◌, ◌≢◌, ◌⊎◌, ◌<◌, ◌≤◌, ◌^◌, ◌++◌, ℕ, List, Option, Some, None, Contains, IfSome, get_or}
use Rattle.std.specs.Prelude.{length}
use Rattle.sys_file.specs.Folders.{IsIn}
use Rattle.sys_refusals.specs.Paths.{numbered}

-- no file has a number
abbrev pub HasNoNumber : (ℕ → Option ℕ) → Type 0
HasNoNumber at = (n : ℕ) → 0 < n → n < 2 ^ 32 → at n ≡ None

-- the name of each file that has a number is one of these
abbrev pub NamesNumbers : (ℕ → Option ℕ) → List ℕ → List (List ℕ) → Type 0
NamesNumbers at name names = (n : ℕ) → 0 < n → n < 2 ^ 32 → at n ≢ None → Contains names (numbered name (Some n))

-- the paths that begin with this prefix are in this folder, and there their names begin with this name
pub record PutsNumbersIn (folder name prefix : List ℕ) : Type 0 where
  pub inside : (tail : List ℕ) → IsIn folder (name ++ tail) (prefix ++ tail)
  pub without_slash : (i : ℕ) → i < length name → get_or name i 0 ≢ 47

-- the least number so far is at most this
abbrev pub IsAtMost : Option ℕ → ℕ → Type 0
IsAtMost None n = ⊥
IsAtMost (Some least) n = least ≤ n

-- at this number above that one there is a file
abbrev pub IsThereAbove : (ℕ → Option ℕ) → ℕ → ℕ → Type 0
IsThereAbove at behind k = (behind < k) × ((k < 2 ^ 32) × (at k ≢ None))

-- each number of a file is at least the least one so far, or its name is still to come
pub record IsLeastSoFar (at : ℕ → Option ℕ) (name : List ℕ) (behind : ℕ) (to_come : List (List ℕ)) (least : Option ℕ)
    : Type 0 where
  pub there : IfSome least (IsThereAbove at behind)
  pub others : (n : ℕ) → IsThereAbove at behind n → IsAtMost least n ⊎ Contains to_come (numbered name (Some n))
