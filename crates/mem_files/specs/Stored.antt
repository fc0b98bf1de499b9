-- Which file a path leads to, and what each file holds.
use Rattle.std.specs.Prelude.{ℕ, List, [], ◌∷◌, Option, Some, None, cond, bytes_eq, string_bytes, map}
use Rattle.mem_files.specs.declared.stored.MemoryFile.{MemoryFile}
use Rattle.mem_files.specs.declared.stored.MemoryPath.{MemoryPath}

-- the file that this path leads to: the first that is listed of this name
unfoldable pub leads : List MemoryPath → List ℕ → Option ℕ
leads [] path = None
leads (p ∷ ps) path = cond (bytes_eq path (string_bytes p.name)) (Some p.file) (leads ps path)

-- what each file holds, by its number
abbrev pub contents : List MemoryFile → List (List ℕ)
contents files = map (λ f. f.bytes.items) files
