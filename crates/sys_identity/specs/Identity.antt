-- The identity of a file, from what the system reports about it.
use Rattle.std.specs.Prelude.{◌≡◌, ℕ, Bool, true, false, Option, Some, None, Result, IfOk, OnErr, IsOk, IfSome}
use Rattle.sys_file.specs.declared.stat.Kind.{Kind}
use Rattle.sys_file.specs.declared.stat.Kind.TheVariants as kinds
use Rattle.sys_file.specs.declared.stat.Stat.{Stat}
use Rattle.sys_identity.specs.declared.identity.Found.{Found}
use Rattle.sys_identity.specs.declared.identity.Identity.{Identity}

-- A regular file holds data, which writing it would lose. What is written to it, to a pipe or to a socket is mixed with
-- what others write there. A terminal and the null device are neither.
abbrev on_device : Bool → Bool → Stat → Identity
on_device holds among stat =
    record { device = Some stat.on; number = stat.number; holds_data = holds; mixes = among }

abbrev pub identity_as : Kind → Stat → Identity
identity_as kinds.Block stat = record { device = None; number = stat.device; holds_data = true; mixes = true }
identity_as kinds.File stat = on_device true true stat
identity_as kinds.Pipe stat = on_device false true stat
identity_as kinds.Socket stat = on_device false true stat
identity_as kinds.Folder stat = on_device false false stat
identity_as kinds.Other stat = on_device false false stat

-- a block device is the same by whatever path, any other file by its device and its number there
abbrev pub identity_of : Stat → Identity
identity_of stat = identity_as stat.kind stat

-- the number of the file that has this identity
abbrev pub identified : (Option ℕ → ℕ → ℕ) → Identity → ℕ
identified number identity = number identity.device identity.number

-- it is what a file of that number always is
abbrev pub IsKnown : (Option ℕ → ℕ → ℕ) → (ℕ → Stat) → Identity → Type 0
IsKnown number known identity = identity ≡ identity_of (known (identified number identity))

-- this is what is at a path, or nothing is there
pub record FindsAt {E : Type 0} (number : Option ℕ → ℕ → ℕ) (known : ℕ → Stat) (file : Option ℕ) (r : Result Found E)
    : Type 0 where
  pub none : OnErr r (file ≡ None)
  pub there : IfOk r (λ found. file ≡ Some (identified number found.identity))
  pub same : IfOk r (λ found. IsKnown number known found.identity)

-- the same of its identity
pub record IdentifiesAt (number : Option ℕ → ℕ → ℕ) (known : ℕ → Stat) (file : Option ℕ) (r : Option Identity)
    : Type 0 where
  pub none : r ≡ None → file ≡ None
  pub there : IfSome r (λ identity. file ≡ Some (identified number identity))
  pub same : IfSome r (IsKnown number known)

-- this is the identity of the file of a number
pub record IsIdentityOf (number : Option ℕ → ℕ → ℕ) (known : ℕ → Stat) (file : ℕ) (identity : Identity) : Type 0
  where
    pub this : identified number identity ≡ file
    pub same : IsKnown number known identity
