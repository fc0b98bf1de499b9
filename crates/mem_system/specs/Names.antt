-- The names of files in their folders.
use Rattle.std.specs.Prelude.{ℕ, List, [], ◌∷◌, ◌==◌, cond, map, string_bytes}
use Rattle.mem_files.specs.declared.stored.MemoryPath.{MemoryPath}

-- what comes after the last slash, or this if there is none
unfoldable pub behind_slash : List ℕ → List ℕ → List ℕ
behind_slash [] here = here
behind_slash (c ∷ cs) here = cond (c == 47) (behind_slash cs cs) (behind_slash cs here)

-- the name of a file, which is what comes after the last slash of its path
abbrev pub name_in : List ℕ → List ℕ
name_in path = behind_slash path path

-- the names of all files
abbrev pub names_of : List MemoryPath → List (List ℕ)
names_of paths = map (λ p. name_in (string_bytes p.name)) paths
