-- Which file a path leads to, where the system models its files: the identity of that file is the one that is compared.
use Rattle.std.specs.Prelude.{◌≡◌, ℕ, List, Option, Some, Result, IfOk}
use Rattle.sys_file.specs.declared.stat.Stat.{Stat}
use Rattle.sys_identity.specs.Identity.{IsKnown, identified}
use Rattle.sys_identity.specs.declared.identity.Identity.{Identity}
use Rattle.sys_host.specs.Taken.{Forbidden, Adds}
use Rattle.sys_host.specs.declared.open_file.OpenedFile.{OpenedFile}
use Rattle.sys_host.specs.declared.taken.Taken.{Taken}

-- one more file is read: it is the one at this path, and these are its bytes
pub record ReadsPlace (number : Option ℕ → ℕ → ℕ) (known : ℕ → Stat) (path bytes : List ℕ)
    (at : List ℕ → Option ℕ) (holds : ℕ → List ℕ) (taken taken' : Taken) : Type 0 where
  pub file : Identity
  pub this : IsKnown number known file
  pub there : at path ≡ Some (identified number file)
  pub held : bytes ≡ holds (identified number file)
  pub added : Adds taken taken' file

-- one more file is written: it is the one at this path, and none that is read or written already
pub record WritesPlace (number : Option ℕ → ℕ → ℕ) (known : ℕ → Stat) (path : List ℕ) (at : List ℕ → Option ℕ)
    (taken taken' : Taken) : Type 0 where
  pub file : Identity
  pub this : IsKnown number known file
  pub there : at path ≡ Some (identified number file)
  pub free : ¬ Forbidden taken file
  pub added : Adds taken taken' file

-- and it held these bytes
pub record WritesOver (number : Option ℕ → ℕ → ℕ) (known : ℕ → Stat) (path bytes : List ℕ)
    (at : List ℕ → Option ℕ) (holds : ℕ → List ℕ) (taken taken' : Taken) : Type 0 where
  pub file : Identity
  pub this : IsKnown number known file
  pub there : at path ≡ Some (identified number file)
  pub held : bytes ≡ holds (identified number file)
  pub free : ¬ Forbidden taken file
  pub added : Adds taken taken' file

-- a file may have been created: every path leads where it led, and no file holds anything else
pub record KeepsPaths {S : Type 0} (at : S → List ℕ → Option ℕ) (holds : S → ℕ → List ℕ) (old new : S) : Type 0
  where
    pub leads : (p : List ℕ) (f : ℕ) → at old p ≡ Some f → at new p ≡ Some f
    pub kept : holds new ≡ holds old

-- the identity of what was opened is that of the file at this path
pub record IsAtPlace {E F : Type 0} (number : Option ℕ → ℕ → ℕ) (known : ℕ → Stat) (path : List ℕ)
    (r : Result (OpenedFile F) E) (at : List ℕ → Option ℕ) : Type 0 where
  pub there : IfOk r (λ opened. at path ≡ Some (identified number opened.found.identity))
  pub this : IfOk r (λ opened. IsKnown number known opened.found.identity)

-- no file at this path is one of these
abbrev pub IsFreeAt : (Option ℕ → ℕ → ℕ) → (ℕ → Stat) → List ℕ → (List ℕ → Option ℕ) → Taken → Type 0
IsFreeAt number known path at taken =
    (file : Identity) → IsKnown number known file → at path ≡ Some (identified number file) → ¬ Forbidden taken file
