-- The line that is printed of an image that was written.
use Rattle.std.specs.Prelude.{ℕ, ◌-◌, ◌^◌, min, List, ◌++◌, codes, decimal}

-- how many bytes it has
abbrev pub image_line : ℕ → List ℕ
image_line bytes = codes "bytes " ++ decimal bytes

-- as far as 64 bits count
abbrev pub counted_in_u64 : ℕ → ℕ
counted_in_u64 n = min n (2 ^ 64 - 1)
