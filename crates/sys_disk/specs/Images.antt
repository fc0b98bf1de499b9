-- The file of an image that has a magic, which is written last.
use Rattle.std.specs.Prelude.{◌≡◌, ◌<◌, ◌⊎◌, ℕ, List, [], ◌∷◌, Bool, true, false, not, Option, Some, None, length}
use Rattle.std.specs.Prelude.{take, codes, bytes_eq}
use Rattle.sys_disk.specs.World.{World}
use Rattle.sys_disk.specs.declared.image_to.ImageTo.{ImageTo}
use Rattle.sys_disk.specs.declared.image_to.ImageTo.TheVariants.{File, Stream}

-- whether an image goes to a file that can be overwritten
abbrev pub is_file : {F S : Type 0} → ImageTo F S → Bool
is_file (File file) = true
is_file (Stream stream) = false

-- what holds of the file, and what holds of the stream
abbrev pub OfImage : {F S : Type 0} → (F → Type 0) → (S → Type 0) → ImageTo F S → Type 0
OfImage p q (File file) = p file
OfImage p q (Stream stream) = q stream

-- it has no magic at its beginning: it has fewer than four bytes, or begins with a zero
abbrev pub HasNoFront : List ℕ → Type 0
HasNoFront x = (length x < 4) ⊎ (take 1 x ≡ 0 ∷ [])

-- the output that was open holds these bytes, or has no magic at its beginning
abbrev pub Leaves : Option ℕ → List ℕ → World → Type 0
Leaves None bytes new = Unit {0}
Leaves (Some file) bytes new = (new.holds file ≡ bytes) ⊎ HasNoFront (new.holds file)

-- what is at this path holds what it held, or nothing
abbrev pub EmptiesAt : List ℕ → World → World → Type 0
EmptiesAt path old new = (file : ℕ) → new.at path ≡ Some file
    → (new.holds file ≡ old.holds file) ⊎ (new.holds file ≡ [])

-- every file holds what it held
abbrev pub HoldsSame : World → World → Type 0
HoldsSame old new = (file : ℕ) → new.holds file ≡ old.holds file

-- which paths lead to files, on a disk in memory: all but that of standard output
abbrev pub is_over : List ℕ → Bool
is_over path = not (bytes_eq path (codes "/dev/stdout"))
