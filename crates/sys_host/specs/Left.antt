-- The file that fills the buffer of an input.
use Rattle.std.specs.Prelude.{◌≡◌, ℕ, List, Bool, Option, drop}
use Rattle.std.specs.Io.Buffered.{reader_remaining}
use Rattle.std.specs.declared.io.buffered.BufReader.{BufReader}
use Rattle.sys_host.specs.Forward.{known, bytes_of_known}
use Rattle.sys_host.specs.declared.origin.Origin.{Origin}

-- what a file still has after its position, if it models its content
abbrev pub left_of : {F : Type 0} {g : _} → Bool → (F → List ℕ) → (F → ℕ) → Origin F g → Option (List ℕ)
left_of models stands place origin = known models (drop (place origin.file) (stands origin.file))

-- these bytes are still to come
abbrev pub Remains : {F A : Type 0} {g : _} → Bool → (F → List ℕ) → (F → ℕ) → BufReader (Origin F g) A → List ℕ
    → Type 0
Remains models stands place reader bytes =
    bytes_of_known (reader_remaining (left_of models stands place) reader) ≡ bytes
