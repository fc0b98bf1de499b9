-- Lists that are bytes.
use Rattle.std.specs.Prelude.{ℕ, List, ◌<◌, slice_index}

-- each item is below 256
abbrev pub AreBytes : List ℕ → Type 0
AreBytes x = (i : ℕ) → slice_index x i < 256
