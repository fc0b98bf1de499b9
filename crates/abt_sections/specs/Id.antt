-- The id of an image, as `mkbootimg` computes it.
use Rattle.std.specs.Prelude.{ℕ, List, [], ◌∷◌, ◌++◌, length, replicate}
use Rattle.byteorder.specs.Endian.{little_bytes}
use Rattle.sha1.specs.Sha1.{sha1}

-- each part, and after it its size in four bytes
abbrev pub sized_parts : List (List ℕ) → List ℕ
sized_parts [] = []
sized_parts (x ∷ xs) = x ++ little_bytes 4 (length x) ++ sized_parts xs

-- the SHA-1 of the parts with their sizes, and then twelve zeros
unfoldable pub id_of : List (List ℕ) → List ℕ
id_of parts = sha1 (sized_parts parts) ++ replicate 12 0
