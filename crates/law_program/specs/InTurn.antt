-- Commands that are given one after another, each as its statement says, and what they leave together.
use Rattle.std.specs.Prelude.{◌≡◌, ◌<◌, ◌≤◌, ◌^◌, ◌+◌, ℕ, zero, suc, List, [], ◌∷◌, map, Some, None}
use Rattle.abt_sparse.specs.Block.{Block, expansion}
use Rattle.abt_sparse.specs.Chunk.{Header, Chunk, classed}
use Rattle.abt_sparse.specs.Fails.{Spells}
use Rattle.abt_sparse.specs.Pieces.{flashed, pieces}
use Rattle.sys_disk.specs.World.{World, OpenFiles}
use Rattle.cmd_common_sparse.specs.PieceNames.{Naming}
use Rattle.cmd_cut.specs.Cutting.{CutsFile, IsPiecePath, path_in_turn, piece_path}
use Rattle.sys_disk.specs.Among.{OnlyAmong}
use Rattle.cmd_flash.specs.Files.{Between}
use Rattle.cmd_flash.specs.Flashing.{IsFlashed}
use Rattle.cmd_expand.specs.Overlaying.{LeadTo, OverlaysFiles}

-- x is a sparse image, each block of which has room within the limit
pub record IsCuttable (limit : ℕ) (x : List ℕ) : Type 0 where
  pub header : Header
  pub chunks : List Chunk
  pub rest : List ℕ
  pub spelled : Spells x header chunks rest
  pub room : 64 + header.blk_sz ≤ limit
  pub low : limit < 2 ^ 32

-- the files at these paths hold its pieces, in their order
pub record HoldPieces (limit : ℕ) (x : List ℕ) (image : IsCuttable limit x) (paths : List (List ℕ)) (world : World)
    : Type 0 where
  pub files : List ℕ
  pub lead : LeadTo world paths files
  pub hold : map world.holds files ≡ pieces limit image.header.blk_sz (classed image.chunks)

-- the files at these paths are flashed to a partition in turn, each by a command `flash` that was done
pub data FlashesEach (partition : List ℕ) : List (List ℕ) → World → World → Type 0 where
  none : (a : World) → FlashesEach partition [] a a
  next : (path : List ℕ) (paths : List (List ℕ)) (a b c : World) (blocks : ℕ)
      → Between path partition a b (IsFlashed blocks) → FlashesEach partition paths b c
      → FlashesEach partition (path ∷ paths) a c

-- Each piece of an image is flashed to a partition, in turn, by a command of its own. Then the partition holds what
-- flashing the image leaves of what it held.
abbrev pub FlashedInTurn : Type 0
FlashedInTurn = (limit : ℕ) (x partition : List ℕ) (paths : List (List ℕ)) (a c : World) (onto : ℕ)
    (image : IsCuttable limit x) → HoldPieces limit x image paths a → a.at partition ≡ Some onto
    → FlashesEach partition paths a c → c.holds onto ≡ flashed (a.holds onto) x

-- The pieces of an image are expanded together, by one command. Then OUT holds the expansion of the image.
abbrev pub ExpandedTogether : Type 0
ExpandedTogether = (limit : ℕ) (x output : List ℕ) (paths : List (List ℕ)) (a c : World)
    (image : IsCuttable limit x) → HoldPieces limit x image paths a
    → (out : OverlaysFiles paths output a c (λ line. Unit {0}))
    → c.holds out.onto ≡ expansion image.header.blk_sz (classed image.chunks)

-- ---- with `cut` before them

-- the paths of n pieces, from this one on, counted from 1
abbrev pub piece_paths : Naming → ℕ → ℕ → List (List ℕ)
piece_paths names first zero = []
piece_paths names first (suc n) = path_in_turn names first ∷ piece_paths names (first + 1) n

-- `cut` of a sparse image was done, and only files under its names were changed
pub record CutsInTurn (limit : ℕ) (input : List ℕ) (names : Naming) (held held' : OpenFiles) (old new : World)
    : Type 0 where
  pub done : CutsFile None limit input names held held' old new (λ size blocks. Unit {0})
  pub only : OnlyAmong (IsPiecePath names.prefix) held.read held'.begun old new
  pub low : limit < 2 ^ 32

-- no file under these names is this one
abbrev pub IsNoPiece : List ℕ → World → ℕ → Type 0
IsNoPiece prefix world file = (n : ℕ) → ¬ (world.at (piece_path prefix n) ≡ Some file)

-- An image is cut, and each piece is flashed to a partition, which is no piece, by a command of its own: it holds then
-- what flashing the image leaves of what it held before.
abbrev pub CutThenFlashed : Type 0
CutThenFlashed = (limit : ℕ) (input partition : List ℕ) (names : Naming) (held held' : OpenFiles) (a b c : World)
    (onto : ℕ)
    (cut : CutsInTurn limit input names held held' a b) → a.at partition ≡ Some onto → IsNoPiece names.prefix b onto
    → FlashesEach partition (piece_paths names 1 cut.done.count) b c
    → c.holds onto ≡ flashed (a.holds onto) (a.holds cut.done.from)

-- An image is cut, and its pieces are expanded together: OUT holds the expansion of the image.
abbrev pub CutThenExpanded : Type 0
CutThenExpanded = (limit : ℕ) (input output : List ℕ) (names : Naming) (held held' : OpenFiles) (a b c : World)
    (cut : CutsInTurn limit input names held held' a b)
    (out : OverlaysFiles (piece_paths names 1 cut.done.count) output b c (λ line. Unit {0}))
    → c.holds out.onto ≡ expansion cut.done.size cut.done.blocks
