-- An image as a list of blocks of b bytes, the cells that it writes to a device, and a raw image as such a list.
use Rattle.std.specs.Prelude.{◌≡◌, ℕ, zero, suc, ◌+◌, ◌-◌, ◌*◌, ◌/◌, ◌%◌, ◌^◌, ◌<◌, List, [], ◌∷◌, ◌++◌, length, take}
use Rattle.std.specs.Prelude.{drop, map, replicate, Option, Some, None, bytes_eq, if◌then◌else◌, ⊤}
use Rattle.std.specs.List.{flat_map, concat, list_all, AllByRecursion}

-- What is stored in a block: bytes of its own, one word of four bytes all over, or nothing that counts.
pub data Block : Type 0 where
  Raw : List ℕ → Block
  Fill : List ℕ → Block
  Skip : Block

-- the bytes that a block of b bytes writes, and None where it writes none
abbrev pub block_bytes : ℕ → Block → Option (List ℕ)
block_bytes b (Raw bytes) = Some bytes
block_bytes b (Fill word) = Some (concat (replicate (b / 4) word))
block_bytes b Skip = None

-- The same as b cells: a byte that is written, or None for one that is not.
abbrev pub cells_of : ℕ → Option (List ℕ) → List (Option ℕ)
cells_of b None = replicate b None
cells_of b (Some bytes) = map (λ x. Some x) bytes

abbrev pub cells : ℕ → List Block → List (Option ℕ)
cells b blocks = flat_map (λ x. cells_of b (block_bytes b x)) blocks

-- The content of p after the cells are written to it: a byte stays where no cell has another. Its length is that of p.
abbrev pub over : List ℕ → List (Option ℕ) → List ℕ
over [] cs = []
over (y ∷ p) [] = y ∷ p
over (y ∷ p) (None ∷ cs) = y ∷ over p cs
over (y ∷ p) (Some x ∷ cs) = x ∷ over p cs

-- what the cells give over zeros, as an image that is expanded does
abbrev pub laid : List (Option ℕ) → List ℕ
laid cs = over (replicate (length cs) 0) cs

abbrev pub expansion : ℕ → List Block → List ℕ
expansion b blocks = laid (cells b blocks)

-- a size that blocks may have: whole words, in four bytes
abbrev pub IsBlockSize : ℕ → Type 0
IsBlockSize b = (0 < b) × (b % 4 ≡ 0) × (b < 2 ^ 32)

-- a block of b bytes, and a list of such
abbrev pub IsBlock : ℕ → Block → Type 0
IsBlock b (Raw bytes) = length bytes ≡ b
IsBlock b (Fill word) = length word ≡ 4
IsBlock b Skip = ⊤

abbrev pub AreBlocks : ℕ → List Block → Type 0
AreBlocks b blocks = AllByRecursion (IsBlock b) blocks

-- bytes filled up with zeros to a length of n, and n parts of b bytes from the beginning
abbrev pub filled_to : ℕ → List ℕ → List ℕ
filled_to n bytes = bytes ++ replicate (n - length bytes) 0

abbrev pub split : ℕ → ℕ → List ℕ → List (List ℕ)
split b zero bytes = []
split b (suc n) bytes = take b bytes ∷ split b n (drop b bytes)

-- a block whose words are all its first one is a fill, any other is raw
abbrev pub class_of : List ℕ → Block
class_of bytes =
    if list_all (bytes_eq (take 4 bytes)) (split 4 (length bytes / 4) bytes) then Fill (take 4 bytes) else Raw bytes

-- how many blocks hold the bytes, and a raw image as blocks: filled up with zeros to a whole block, and split
abbrev pub block_count : ℕ → List ℕ → ℕ
block_count b bytes = (length bytes + (b - 1)) / b

abbrev pub classify : ℕ → List ℕ → List Block
classify b bytes = map class_of (split b (block_count b bytes) (filled_to (b * block_count b bytes) bytes))
