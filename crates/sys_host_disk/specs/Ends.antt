-- What the disk leaves of a file that it closes.
use Rattle.std.specs.Prelude.{◌≡◌, ℕ, List, Option}
use Rattle.abt_io.specs.declared.tally.Tally.{Tally}
use Rattle.sys_file.specs.System.{ClosesFile}

-- One file is closed, with what it holds. All other files hold what they held, and every path leads where it led.
pub record ClosesOne {F : Type 0} (which : F → ℕ) (stands : F → List ℕ) (at at' : List ℕ → Option ℕ)
    (holds holds' : ℕ → List ℕ) : Type 0 where
  pub file : F
  pub closed : ClosesFile (which file) (stands file) at at' holds holds'

-- nothing is said of the bytes
abbrev pub IsAnything : List ℕ → Type 0
IsAnything bytes = Unit {0}

-- The same. One statement of its bytes is so, unless that is counted as lost, and another is so in any case.
pub record ClosesGivenUp {F : Type 0} (which : F → ℕ) (stands : F → List ℕ) (lost lost' : Tally)
    (HasBytes HasAlways : List ℕ → Type 0) (at at' : List ℕ → Option ℕ) (holds holds' : ℕ → List ℕ) : Type 0 where
  pub file : F
  pub closed : ClosesFile (which file) (stands file) at at' holds holds'
  pub whole : lost'.number ≡ lost.number → HasBytes (stands file)
  pub always : HasAlways (stands file)
