-- The files under given names, and that nothing else was changed.
use Rattle.std.specs.Prelude.{◌≡◌, ◌⊎◌, ℕ, List, [], ◌∷◌, Option, Some, None, Contains}
use Rattle.sys_disk.specs.World.{World, OpenFiles, HasMost, KeepsBegun}

-- this path leads to a file that holds these bytes
pub record FileHolds (world : World) (path bytes : List ℕ) : Type 0 where
  pub file : ℕ
  pub there : world.at path ≡ Some file
  pub holds : world.holds file ≡ bytes

-- this path leads to a file that begins with these bytes, but for less than 65,536 of them at their end
pub record FileHoldsMost (world : World) (path bytes : List ℕ) : Type 0 where
  pub file : ℕ
  pub there : world.at path ≡ Some file
  pub holds : HasMost bytes (world.holds file)

-- the file is at one of these paths, and is none that is read
pub record IsAmong (named : List ℕ → Type 0) (read : List ℕ) (world : World) (file : ℕ) : Type 0 where
  pub path : List ℕ
  pub is_named : named path
  pub there : world.at path ≡ Some file
  pub free : ¬ Contains read file

-- every path leads where it led; each file holds what it held, or is at one of these paths; and so is each file that
-- was created or opened to be written
pub record OnlyAmong (named : List ℕ → Type 0) (read begun : List ℕ) (old new : World) : Type 0 where
  pub leads : (p : List ℕ) (f : ℕ) → old.at p ≡ Some f → new.at p ≡ Some f
  pub files : (f : ℕ) → (new.holds f ≡ old.holds f) ⊎ IsAmong named read new f
  pub opened : (f : ℕ) → Contains begun f → IsAmong named read new f

-- ---- for outputs that are written one after another

-- the same, from one state of a run to a later one
pub record GoesAmong (named : List ℕ → Type 0) (held held' : OpenFiles) (old new : World) : Type 0 where
  pub read : held'.read ≡ held.read
  pub leads : (p : List ℕ) (f : ℕ) → old.at p ≡ Some f → new.at p ≡ Some f
  pub files : (f : ℕ) → (new.holds f ≡ old.holds f) ⊎ IsAmong named held.read new f
  pub opened : (f : ℕ) → Contains held'.begun f → Contains held.begun f ⊎ IsAmong named held.read new f

-- no output is open, and each file that was begun before holds what it held
pub record KeepsMade (held held' : OpenFiles) (old new : World) : Type 0 where
  pub closed : held'.output ≡ None
  pub leads : (p : List ℕ) (f : ℕ) → old.at p ≡ Some f → new.at p ≡ Some f
  pub holds : KeepsBegun held.begun old new
  pub listed : (f : ℕ) → Contains held.begun f → Contains held'.begun f

-- the file at this path was begun, and holds these bytes
pub record IsMade (held : OpenFiles) (world : World) (path bytes : List ℕ) : Type 0 where
  pub file : ℕ
  pub there : world.at path ≡ Some file
  pub holds : world.holds file ≡ bytes
  pub listed : Contains held.begun file
