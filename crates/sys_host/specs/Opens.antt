-- A file that was just opened, as far as it models its content.
use Rattle.std.specs.Prelude.{◌≡◌, ℕ, List, [], Bool, IsTrue, false, length, Option, Some, Result, IfOk}
use Rattle.abt_io.specs.Moment.{Past}
use Rattle.sys_file.specs.System.{IsJustOpened}
use Rattle.sys_file.specs.declared.stat.Kind.TheVariants as kinds
use Rattle.sys_file.specs.declared.stat.Stat.{Stat}
use Rattle.sys_identity.specs.Identity.{IsIdentityOf}
use Rattle.sys_host.specs.declared.open_file.OpenedFile.{OpenedFile}

-- Nothing was written to it. The length of a regular file is returned. Anything else that was opened to be created is
-- empty.
pub record WasOpened {F : Type 0} (models : Bool) (stands : F → List ℕ) (place : F → ℕ) (past : F → Past)
    (is_created : Bool) (opened : OpenedFile F) : Type 0 where
  pub fresh : IsJustOpened models place past opened.file
  pub long : IsTrue models → opened.found.kind ≡ kinds.File → opened.found.length ≡ length (stands opened.file)
  pub blank : IsTrue models → IsTrue is_created → ¬ (opened.found.kind ≡ kinds.File) → stands opened.file ≡ []

-- and it is empty
pub record OpensEmpty {F : Type 0} (models : Bool) (stands : F → List ℕ) (place : F → ℕ) (past : F → Past) (file : F)
    : Type 0 where
  pub opened_fresh : IsJustOpened models place past file
  pub empty : IsTrue models → stands file ≡ []

-- The file at this path was opened, and its identity is that file's. If it may be created, another path may lead to it
-- from now on; every other path leads where it led. No file holds anything else.
pub record OpensPlace {E F : Type 0} (number : Option ℕ → ℕ → ℕ) (known : ℕ → Stat) (which : F → ℕ)
    (stands : F → List ℕ) (is_created : Bool) (path : List ℕ) (r : Result (OpenedFile F) E)
    (at at' : List ℕ → Option ℕ) (holds holds' : ℕ → List ℕ) : Type 0 where
  pub there : IfOk r (λ opened. at' path ≡ Some (which opened.file))
  pub this : IfOk r (λ opened. IsIdentityOf number known (which opened.file) opened.found.identity)
  pub content : IfOk r (λ opened. stands opened.file ≡ holds (which opened.file))
  pub leads : (p : List ℕ) (f : ℕ) → at p ≡ Some f → at' p ≡ Some f
  pub same : is_created ≡ false → at' ≡ at
  pub kept : holds' ≡ holds
