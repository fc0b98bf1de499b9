-- What is left of an output that is finished, and of a file that was written in place.
use Rattle.std.specs.Prelude.{◌≡◌, [], ℕ, List, Bool, IsTrue, Option}
use Rattle.abt_io.specs.Moment.{Past}
use Rattle.sys_file.specs.System.{ClosesFile}

-- One file holds exactly these bytes. It was closed after it was synced, if it was to be synced. All other files hold
-- what they held, and every path leads where it led.
pub record ClosesWith {F : Type 0} (which : F → ℕ) (stands : F → List ℕ) (past : F → Past) (is_synced : Bool)
    (bytes : List ℕ) (at at' : List ℕ → Option ℕ) (holds holds' : ℕ → List ℕ) : Type 0 where
  pub file : F
  pub exact : stands file ≡ bytes
  pub settled : IsTrue is_synced → (past file).pending ≡ []
  pub closed : ClosesFile (which file) bytes at at' holds holds'

-- One file is closed, whose bytes are so. All other files hold what they held, and every path leads where it led.
pub record ClosesSo {F : Type 0} (which : F → ℕ) (stands : F → List ℕ) (AreSo : List ℕ → Type 0)
    (at at' : List ℕ → Option ℕ) (holds holds' : ℕ → List ℕ) : Type 0 where
  pub file : F
  pub so : AreSo (stands file)
  pub closed : ClosesFile (which file) (stands file) at at' holds holds'
