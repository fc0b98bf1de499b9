-- An input that is read forward. The bytes that are still to come may be known.
use Rattle.std.specs.Prelude.{◌≡◌, ◌≤◌, ◌-◌, ◌++◌, ℕ, List, [], Bool, true, false, IsTrue, Option, Some, None}
use Rattle.std.specs.Prelude.{length, drop}
use Rattle.sys_host.specs.declared.origin.Size.{Size}
use Rattle.sys_host.specs.declared.origin.Size.TheVariants.{Told, Fixed}

-- these bytes, if the file models its content
abbrev pub known : Bool → List ℕ → Option (List ℕ)
known true bytes = Some bytes
known false bytes = None

abbrev pub bytes_of_known : Option (List ℕ) → List ℕ
bytes_of_known None = []
bytes_of_known (Some bytes) = bytes

-- the length that a file always has, if it is fixed
abbrev pub fixed_size : Size → Option ℕ
fixed_size Told = None
fixed_size (Fixed bytes) = Some bytes

-- it skips this many bytes of a file: no more than were asked for, and none beyond the end
pub record GoesPast (models : Bool) (passed most : ℕ) (old new : List ℕ) (place place' : ℕ) : Type 0 where
  pub within : passed ≤ most
  pub present : IsTrue models → passed ≤ length old - place
  pub same : IsTrue models → new ≡ old
  pub rest : IsTrue models → drop place' new ≡ drop passed (drop place old)

-- the same of a reader: bytes that it holds, and if it holds none those of its file
pub record ReaderGoesPast (models : Bool) (passed most : ℕ) (held held' : List ℕ) (room room' : ℕ) (old new : List ℕ)
    (place place' : ℕ) : Type 0 where
  pub bound : passed ≤ most
  pub there : IsTrue models → passed ≤ length (held ++ drop place old)
  pub left : IsTrue models → held' ++ drop place' new ≡ drop passed (held ++ drop place old)
  pub same_room : room' ≡ room
