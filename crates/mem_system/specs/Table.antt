-- What each file holds, and how the paths that lead to files change.
use Rattle.std.specs.Prelude.{◌≡◌, ℕ, List, [], Option, Some, get_or}
use Rattle.mem_files.specs.Stored.{contents}
use Rattle.mem_files.specs.declared.stored.MemoryFile.{MemoryFile}

-- what the file of a number holds
abbrev pub stored_in : List MemoryFile → ℕ → List ℕ
stored_in files n = get_or (contents files) n []

-- every path that leads to a file leads there still
abbrev pub MayLead : (List ℕ → Option ℕ) → (List ℕ → Option ℕ) → Type 0
MayLead at at' = (p : List ℕ) (f : ℕ) → at p ≡ Some f → at' p ≡ Some f
