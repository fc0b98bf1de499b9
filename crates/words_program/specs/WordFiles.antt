-- The files that words name, and their contents.
use Rattle.std.specs.Prelude.{◌≡◌, ℕ, List, [], ◌∷◌, ◌++◌, Some, map, drop}
use Rattle.std.specs.List.{filter}
use Rattle.words_values.specs.WordFile.{names_file}
use Rattle.sys_disk.specs.World.{World, OpenFiles}
use Rattle.cmd_common_sparse.specs.ImagePath.{image_path}

-- the paths after the `@` of such words, in order, where `@-` is standard input
abbrev pub paths_named : List (List ℕ) → List (List ℕ)
paths_named words = map (λ word. image_path (drop 1 word)) (filter names_file words)

-- The files that words name exist, and these are their texts, in order. They are read from now on, and nothing else has
-- been opened, or has failed.
pub record ReadsWordFiles (words texts : List (List ℕ)) (world : World) (held held' : OpenFiles) : Type 0 where
  pub files : List ℕ
  pub there : map world.at (paths_named words) ≡ map (λ f. Some f) files
  pub holds : texts ≡ map world.holds files
  pub taken : held' ≡ record held { read = held.read ++ files }

-- one word more, and its text after the others, if it names a file
pub record ReadsNext (word : List ℕ) (texts texts' : List (List ℕ)) (world : World) (held held' : OpenFiles) : Type 0
  where
    pub own : List (List ℕ)
    pub behind : texts' ≡ texts ++ own
    pub reads : ReadsWordFiles (word ∷ []) own world held held'
