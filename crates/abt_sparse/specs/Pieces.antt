-- An image cut into pieces for a download limit, and the content of a device after they are flashed.
use Rattle.std.specs.Prelude.{◌≡◌, ℕ, ◌≤◌, List, [], ◌∷◌, ◌++◌, length, take, map, Option}
use Rattle.abt_sparse.specs.Block.{Block, cells, over}
use Rattle.abt_sparse.specs.Runs.{weight, segments, frames}
use Rattle.abt_sparse.specs.Chunk.{Chunk, classed, piece, plain_header}
use Rattle.abt_sparse.specs.Fails.{Spells}
use Rattle.abt_sparse.specs.Reading.{Outcome, Image, Fault, outcome}

-- ---- cuts

-- the part stays within the limit, and no prefix of the blocks that does is longer
abbrev pub IsGreatest : ℕ → ℕ → List Block → List Block → Type 0
IsGreatest limit b blocks part = (weight b part ≤ limit)
    × ((e : ℕ) → e ≤ length blocks → weight b (take e blocks) ≤ limit → e ≤ length part)

-- Each part goes as far as the limit allows, and the last one to the end; no blocks make one part without any.
abbrev pub AreCuts : ℕ → ℕ → List Block → List (List Block) → Type 0
AreCuts limit b blocks [] = ⊥
AreCuts limit b blocks (part ∷ []) = (part ≡ blocks) × (weight b part ≤ limit)
AreCuts limit b blocks (part ∷ next ∷ parts) = (rest : List Block) × (part ++ rest ≡ blocks) × (rest ≡ [] → ⊥)
    × IsGreatest limit b blocks part × AreCuts limit b rest (next ∷ parts)

-- ---- pieces

-- the pieces of an image of these blocks, as bytes
abbrev pub pieces : ℕ → ℕ → List Block → List (List ℕ)
pieces limit b blocks = map (piece b) (frames 0 (segments limit b blocks))

-- a piece of an image of n blocks of b bytes: itself a sparse image of so many blocks, within the limit
pub record IsPiece (limit b n : ℕ) (x : List ℕ) : Type 0 where
  pub chunks : List Chunk
  pub within : length x ≤ limit
  pub spelled : Spells x (plain_header b n (length chunks)) chunks []

-- the pieces of a sparse image, as it is read
abbrev pub pieces_of : ℕ → Outcome → List (List ℕ)
pieces_of limit (Image h cs rest) = pieces limit h.blk_sz (classed cs)
pieces_of limit (Fault f given) = []

-- ---- flashing

-- what bytes write over a device: an image its blocks, and bytes with a fault what came before it
abbrev pub given : Outcome → List (Option ℕ)
given (Image h cs rest) = cells h.blk_sz (classed cs)
given (Fault f before) = before

-- what a device that held p holds once the bytes are flashed, and once several are, one after the other
abbrev pub flashed : List ℕ → List ℕ → List ℕ
flashed p x = over p (given (outcome x))

abbrev pub flashed_in_turn : List ℕ → List (List ℕ) → List ℕ
flashed_in_turn p [] = p
flashed_in_turn p (x ∷ xs) = flashed_in_turn (flashed p x) xs
