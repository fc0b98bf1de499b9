-- What `cut` leaves, whatever the outcome: no part of a piece, and nothing where a piece has the image's own file.
use Rattle.std.specs.Prelude.{◌≡◌, ◌<◌, ◌^◌, ◌+◌, ◌-◌, ◌⊎◌, ℕ, List, Bool, Option, Some, None, IsTrue, is_some}
use Rattle.abt_sparse.specs.Block.{Block}
use Rattle.abt_sparse.specs.Pieces.{pieces}
use Rattle.abt_pieces.specs.Turn.{HasAt}
use Rattle.sys_disk.specs.World.{World, OpenFiles, IsFree}
use Rattle.cmd_common_sparse.specs.PieceNames.{IsPieceName, Naming}
use Rattle.cmd_cut.specs.Cutting.{IsImageOfBlocks, path_in_turn, piece_path}
use Rattle.cmd_cut.specs.Sparsing.{HoldsNoSparse}

-- ---- no part of a piece

-- this file holds what it held, or no sparse image, or the piece that has its name
pub data HoldsNoPartOfPiece (names : Naming) (ps : List (List ℕ)) (old new : World) (f : ℕ) : Type 0 where
  kept : new.holds f ≡ old.holds f → HoldsNoPartOfPiece names ps old new f
  no_image : HoldsNoSparse (new.holds f) → HoldsNoPartOfPiece names ps old new f
  whole : (j : ℕ) → new.at (path_in_turn names (j + 1)) ≡ Some f → HasAt ps j (new.holds f)
      → HoldsNoPartOfPiece names ps old new f

-- so does every file, where pieces go to files that can be overwritten
abbrev pub LeavesNoPart : (List ℕ → Bool) → Naming → List (List ℕ) → World → World → Type 0
LeavesNoPart over names ps old new =
    ((n : ℕ) → IsTrue (over (piece_path names.prefix n))) → (f : ℕ) → HoldsNoPartOfPiece names ps old new f

-- the open output holds no sparse image, or the piece after this many others
abbrev pub HoldsNoneOrPiece : List (List ℕ) → ℕ → Option ℕ → World → Type 0
HoldsNoneOrPiece ps made None new = Unit {0}
HoldsNoneOrPiece ps made (Some file) new = HoldsNoSparse (new.holds file) ⊎ HasAt ps made (new.holds file)

-- the file at this path does, or holds what it held
abbrev pub KeepsOrHolds : List (List ℕ) → ℕ → List ℕ → World → World → Type 0
KeepsOrHolds ps made path old new = (f : ℕ) → new.at path ≡ Some f
    → (new.holds f ≡ old.holds f) ⊎ (HoldsNoSparse (new.holds f) ⊎ HasAt ps made (new.holds f))

-- ---- the look at the names, before the first piece

-- a file has the name of each of the first j pieces
abbrev pub AreThere : Naming → ℕ → World → Type 0
AreThere names j world = (i : ℕ) → i < j → IsTrue (is_some (world.at (path_in_turn names (i + 1))))

-- The names of the first m pieces, as far as there are files without a gap, lead to none that is read or was begun.
abbrev pub AreFreeInTurn : Naming → ℕ → OpenFiles → World → Type 0
AreFreeInTurn names m held world = (j : ℕ) → j < m → AreThere names j world
    → IsFree (path_in_turn names (j + 1)) held world

-- Nothing was changed; or those names are free, and so is this word, if it is the name of a piece.
pub data LooksAtPieces (names : Naming) (word : List ℕ) (held : OpenFiles) (old new : World) : Type 0 where
  unlooked : new ≡ old → LooksAtPieces names word held old new
  looked : AreFreeInTurn names (2 ^ 32 - 1) held old → (IsPieceName names.prefix word → IsFree word held old)
      → LooksAtPieces names word held old new

-- ---- of an image, and of the file that holds it

-- Nothing was changed; or x is an image of these blocks, the names were looked at, and no file has a part of a piece.
pub data BeginsCut (raw : Option ℕ) (limit : ℕ) (over : List ℕ → Bool) (names : Naming) (word x : List ℕ)
    (held : OpenFiles) (old new : World) : Type 0 where
  unbegun : new ≡ old → BeginsCut raw limit over names word x held old new
  begun : (size : ℕ) (blocks : List Block) → IsImageOfBlocks raw size blocks x → LooksAtPieces names word held old new
      → LeavesNoPart over names (pieces limit size blocks) old new
      → BeginsCut raw limit over names word x held old new

-- Where the existing files with names of pieces are looked at without a gap, none of them is this one.
abbrev pub HasNoPieceFile : Naming → ℕ → World → Type 0
HasNoPieceFile names from world = (j : ℕ) → j < 2 ^ 32 - 1 → AreThere names j world
    → ¬ (world.at (path_in_turn names (j + 1)) ≡ Some from)

-- Nothing was changed. Or the file at a path held an image, and no existing file with the name of a piece is that
-- file, nor is its own word such a name. Then no file has a part of a piece.
pub data SparesImage (raw : Option ℕ) (limit : ℕ) (over : List ℕ → Bool) (names : Naming) (word input : List ℕ)
    (old new : World) : Type 0 where
  unchanged : new ≡ old → SparesImage raw limit over names word input old new
  beside : (from : ℕ) → old.at input ≡ Some from → (size : ℕ) (blocks : List Block)
      → IsImageOfBlocks raw size blocks (old.holds from) → HasNoPieceFile names from old
      → (IsPieceName names.prefix word → ¬ (old.at word ≡ Some from))
      → LeavesNoPart over names (pieces limit size blocks) old new
      → SparesImage raw limit over names word input old new
