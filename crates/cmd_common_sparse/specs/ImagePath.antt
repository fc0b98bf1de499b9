-- The path of an image that is read at any position.
use Rattle.std.specs.Prelude.{ℕ, List, codes, bytes_eq, if◌then◌else◌}

-- what its argument is, where `-` is standard input, which must then be a file
abbrev pub image_path : List ℕ → List ℕ
image_path word = if bytes_eq word (codes "-") then codes "/dev/stdin" else word
