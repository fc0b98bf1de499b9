-- The file that pieces go through: it is created or emptied, written, read again and cleared, and closed.
use Rattle.std.specs.Prelude.{◌≡◌, ℕ, ◌+◌, List, ◌∷◌, length, drop, Some, None, Contains, Bool}
use Rattle.abt_io.specs.Frame.{last_cut}
use Rattle.sys_disk.specs.Counts.{Counts, added}
use Rattle.sys_disk.specs.World.{World, OpenFiles, MayWrite, Spares}

-- pieces go through this file from now on, which keeps its pages or does not
abbrev pub through : Bool → ℕ → OpenFiles → OpenFiles
through keeping file h = record h { begun = file ∷ h.begun; spool = Some file; keeps = keeping }

-- it is closed, and has failed this often
abbrev pub closed_spool : Counts → OpenFiles → OpenFiles
closed_spool failures h = record h { spool = None; counts = added h.counts failures }

-- the file at this path, which may be written, was created or emptied, and pieces go through it: none that is read or
-- was begun, and all others are as before; it keeps its pages, or does not
pub record OpensSpool (keeping : Bool) (path : List ℕ) (held held' : OpenFiles) (old new : World) : Type 0 where
  pub allowed : MayWrite path held
  pub file : ℕ
  pub begins : held' ≡ through keeping file held
  pub there : new.at path ≡ Some file
  pub free : ¬ Contains held.read file
  pub fresh : ¬ Contains held.begun file
  pub spares : Spares file old new

-- what was written after the last clear
abbrev pub behind_clear : List ℕ → List ℕ → List ℕ
behind_clear cuts written = drop (last_cut cuts) written
