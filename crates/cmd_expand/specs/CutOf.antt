-- What is known of the piece that an image is, and of the pieces before it.
use Rattle.std.specs.Prelude.{◌≡◌, ℕ, ◌+◌, ◌<◌, ◌≤◌, Bool, true, false, List, [], ◌∷◌, ◌++◌, Option, Some, None, get_or}
use Rattle.std.specs.Prelude.{bytes_eq, nat_lt, ◌&&◌, ◌||◌, if◌then◌else◌}
use Rattle.std.specs.List.{list_any}
use Rattle.abt_sparse.specs.Block.{Block, Skip}
use Rattle.abt_runs.specs.declared.part.RunKind.{RunKind}
use Rattle.abt_runs.specs.declared.part.RunKind.TheVariants as kinds
use Rattle.sys_disk.specs.World.{World}
use Rattle.cmd_expand.specs.declared.cut_of.CutPiece.{CutPiece}
use Rattle.cmd_expand.specs.declared.cut_of.Span.{Span}
use Rattle.cmd_expand.specs.Overlaying.{FileGives, IsBlockGiven, IsPieceAt}

-- the blocks of a list that an image writes
abbrev pub Said : List Block → ℕ → Type 0
Said blocks n = IsBlockGiven (get_or blocks n Skip)

-- and of these those before this one
abbrev pub SaidBelow : List Block → ℕ → ℕ → Type 0
SaidBelow blocks i n = (n < i) × Said blocks n

-- of the numbers for which it holds, these are the first and the one after the last
pub record Spans (span : Span) (IsSo : ℕ → Type 0) : Type 0 where
  pub first : IsSo span.first
  pub last : ℕ
  pub past : span.past ≡ last + 1
  pub is_last : IsSo last
  pub all : (n : ℕ) → IsSo n → (span.first ≤ n) × (n < span.past)

abbrev pub IsSpanOf : Option Span → (ℕ → Type 0) → Type 0
IsSpanOf None IsSo = (n : ℕ) → ¬ IsSo n
IsSpanOf (Some span) IsSo = Spans span IsSo

-- The piece has this path and writes the blocks for which it holds. Where there is no piece, the path is not that of
-- a piece, or no block is written.
abbrev pub TellsPiece : Option CutPiece → List ℕ → (ℕ → Type 0) → Type 0
TellsPiece None path IsSo = (front : List ℕ) → (number : ℕ) → IsPieceAt front number path → (n : ℕ) → ¬ IsSo n
TellsPiece (Some piece) path IsSo = IsPieceAt piece.front.now piece.number path × Spans piece.span IsSo

-- so are these of the files at these paths
abbrev pub TellsPieces : World → List (Option CutPiece) → List (List ℕ) → Type 0
TellsPieces world [] [] = Unit {0}
TellsPieces world [] (path ∷ paths) = ⊥
TellsPieces world (piece ∷ pieces) [] = ⊥
TellsPieces world (piece ∷ pieces) (path ∷ paths) =
    TellsPiece piece path (FileGives world path) × TellsPieces world pieces paths

-- the first has the lesser number, and a block that is not before one of the second
abbrev pub is_turned : CutPiece → CutPiece → Bool
is_turned first second = nat_lt first.number second.number && nat_lt second.span.first first.span.past

-- of one PREFIX, and so in either order; an image that is no piece, or writes no block, belongs to no other cut
abbrev pub is_of_other_cut : Option CutPiece → Option CutPiece → Bool
is_of_other_cut None other = false
is_of_other_cut (Some own) None = false
is_of_other_cut (Some own) (Some other) =
    bytes_eq own.front.now other.front.now && (is_turned own other || is_turned other own)

-- blocks of this class are written
abbrev pub gives_kind : RunKind → Bool
gives_kind kinds.Raw = true
gives_kind (kinds.Fill word) = true
gives_kind kinds.Skip = false
gives_kind kinds.End = false

abbrev pub first_found : Option Span → ℕ → ℕ
first_found None first = first
first_found (Some span) first = span.first

-- extended by the blocks of a part, from the first up to the one after the last, if they are written
abbrev pub span_with : Option Span → RunKind → ℕ → ℕ → Option Span
span_with found kind first past =
    if gives_kind kind && nat_lt first past then Some (record { first = first_found found first; past = past })
    else found

-- the image at this path is this piece, and belongs to no other cut than those before it
pub record NextPiece (world : World) (path : List ℕ) (pieces pieces' : List (Option CutPiece)) : Type 0 where
  pub own : Option CutPiece
  pub models : TellsPiece own path (FileGives world path)
  pub more : pieces' ≡ pieces ++ (own ∷ [])
  pub apart : list_any (is_of_other_cut own) pieces ≡ false

-- the image at this path belongs to another cut than one of those before it
pub record IsOtherCut (pieces : List (Option CutPiece)) (path : List ℕ) (world : World) : Type 0 where
  pub own : Option CutPiece
  pub models : TellsPiece own path (FileGives world path)
  pub turned : list_any (is_of_other_cut own) pieces ≡ true
