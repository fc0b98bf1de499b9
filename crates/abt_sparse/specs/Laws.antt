-- The laws of all sparse images, each as the contract of a public function.
use Rattle.std.specs.Prelude.{◌≡◌, ℕ, ◌+◌, ◌*◌, ◌/◌, ◌%◌, ◌^◌, ◌≤◌, ◌<◌, List, [], ◌∷◌, ◌++◌, ◌⊎◌, length, take, drop}
use Rattle.std.specs.Prelude.{map, replicate, Option, Some, None, slice_index, slice_index_or}
use Rattle.std.specs.List.{concat, AllByRecursion}
use Rattle.abt_io.specs.Bytes.{AreBytes}
use Rattle.abt_sparse.specs.declared.kind.ChunkKind.{ChunkKind}
use Rattle.abt_sparse.specs.declared.fault.SparseFault.TheVariants.{Truncated}
use Rattle.abt_sparse.specs.Block.{Block, Skip, IsBlockSize, AreBlocks, block_bytes, cells, over, laid, expansion}
use Rattle.abt_sparse.specs.Block.{classify, block_count, filled_to}
use Rattle.abt_sparse.specs.Runs.{IsRuns, runs, Division, segments, frames, framed, joined, weight}
use Rattle.abt_sparse.specs.Gains.{Fresh, gains}
use Rattle.abt_sparse.specs.Chunk.{Header, Chunk, code, classed, piece, spelling, chunks_of, chunk_of_run, plain_header}
use Rattle.abt_sparse.specs.Reading.{Outcome, Fault, outcome, kind_at}
use Rattle.abt_sparse.specs.Fails.{Spells, IsOutcome}
use Rattle.abt_sparse.specs.Mending.{Mendable}
use Rattle.abt_sparse.specs.Pieces.{AreCuts, IsPiece, pieces, pieces_of, given, flashed, flashed_in_turn}

-- ---- reading

-- Bytes have one outcome, an image at their beginning or a fault, and it is the one that reading finds.
pub record OneOutcome : Type 0 where
  pub found : (x : List ℕ) → AreBytes x → IsOutcome x (outcome x)
  pub only : (x : List ℕ) (a : Outcome) → IsOutcome x a → outcome x ≡ a

-- Bytes that end at m are refused there, and what came before is a prefix of these cells.
pub record CutShort (m : ℕ) (x : List ℕ) (cs : List (Option ℕ)) : Type 0 where
  pub came : List (Option ℕ)
  pub more : List (Option ℕ)
  pub read : outcome x ≡ Fault (Truncated m) came
  pub given : cs ≡ came ++ more

-- An image that ends before its last byte is refused where it ends, with a prefix of what it would give.
abbrev pub EndsEarly : Type 0
EndsEarly = (x : List ℕ) (h : Header) (cs : List Chunk) (rest : List ℕ) (m : ℕ) → Spells x h cs rest
    → m + length rest < length x → CutShort m (take m x) (cells h.blk_sz (classed cs))

-- The blocks of an image that is encoded are blocks of its size, as many as its header says.
abbrev pub HasBlocks : Type 0
HasBlocks = (x : List ℕ) (h : Header) (cs : List Chunk) (rest : List ℕ) → Spells x h cs rest
    → AreBlocks h.blk_sz (classed cs) × (length (classed cs) ≡ h.total_blks)

-- ---- writing

-- the byte j of a block that writes these bytes, over a byte that was there
abbrev pub byte_over : Option (List ℕ) → ℕ → ℕ → ℕ
byte_over None j there = there
byte_over (Some bytes) j there = slice_index bytes j

-- Byte i of a device under blocks is that of the block it lies in, or what was there where that block writes nothing
-- or there is none; a device keeps its length, and an expansion has all the blocks' bytes.
pub record LaysBlocks : Type 0 where
  pub byte : (b : ℕ) (p : List ℕ) (l : List Block) (i : ℕ) → IsBlockSize b → AreBlocks b l → i < length p
      → slice_index (over p (cells b l)) i
      ≡ byte_over (slice_index_or (map (block_bytes b) l) (i / b) None) (i % b) (slice_index p i)
  pub kept : (p : List ℕ) (cs : List (Option ℕ)) → length (over p cs) ≡ length p
  pub expanded : (b : ℕ) (l : List Block) → IsBlockSize b → AreBlocks b l → length (expansion b l) ≡ length l * b

-- A raw image as blocks keeps its bytes, filled up with zeros to a whole block; written over a device with room for all
-- blocks, it is at its beginning.
pub record KeepsRaw : Type 0 where
  pub blocks : (b : ℕ) (x : List ℕ) → IsBlockSize b → AreBlocks b (classify b x)
  pub count : (b : ℕ) (x : List ℕ) → IsBlockSize b → length (classify b x) ≡ block_count b x
  pub bytes : (b : ℕ) (x : List ℕ) → IsBlockSize b → expansion b (classify b x) ≡ filled_to (b * block_count b x) x
  pub laid : (b : ℕ) (x p : List ℕ) → IsBlockSize b → b * block_count b x ≤ length p
      → take (length x) (over p (cells b (classify b x))) ≡ x

-- ---- runs and encodings

-- The runs are the only maximal groups.
pub record OneGrouping : Type 0 where
  pub found : (l : List Block) → IsRuns l (runs l)
  pub only : (l : List Block) (groups : List (List Block)) → IsRuns l groups → runs l ≡ groups

-- The encoding of a list reads back as that list, whatever is after it, where its numbers fit their fields.
abbrev pub ReadsBack : Type 0
ReadsBack = (b r : ℕ) (l : List Block) (rest : List ℕ) → IsBlockSize b → 1 ≤ r → 12 + r * b < 2 ^ 32 → AreBlocks b l
    → length l < 2 ^ 32
    → Spells (spelling b r l ++ rest) (plain_header b (length l) (length (chunks_of r l))) (chunks_of r l) rest
    × (classed (chunks_of r l) ≡ l)

-- A piece is an image of all the blocks, of which it says only its own.
abbrev pub PiecesRead : Type 0
PiecesRead = (b before after : ℕ) (l : List Block) (rest : List ℕ) → IsBlockSize b → AreBlocks b l
    → before + length l + after < 2 ^ 32 → weight b l < 2 ^ 32
    → Spells (piece b (framed before l after) ++ rest)
    (plain_header b (before + length l + after) (length (runs (framed before l after))))
    (map chunk_of_run (runs (framed before l after))) rest
    × (classed (map chunk_of_run (runs (framed before l after))) ≡ framed before l after)

-- Each piece of an image is a sparse image within the limit.
abbrev pub EachPiece : Type 0
EachPiece = (limit b : ℕ) (l : List Block) → IsBlockSize b → AreBlocks b l → length l < 2 ^ 32 → 64 + b ≤ limit
    → limit < 2 ^ 32 → AllByRecursion (IsPiece limit b (length l)) (pieces limit b l)

-- ---- weight

-- A piece is at most as long as its segment weighs, a segment never weighs less when it grows, and one block weighs
-- at most 64 bytes and itself. From left to right it is the sum of what each block gains.
pub record Weighs : Type 0 where
  pub fits : (b : ℕ) (l : List Block) (before after : ℕ) → AreBlocks b l
      → length (piece b (framed before l after)) ≤ weight b l
  pub grows : (b : ℕ) (before l after : List Block) → weight b l ≤ weight b (before ++ l ++ after)
  pub one : (b : ℕ) (x : Block) → 4 ≤ b → weight b (x ∷ []) ≤ 64 + b
  pub along : (b : ℕ) (l : List Block) → weight b l ≡ 52 + gains b Fresh l

-- ---- cutting

-- Within a limit that one block fits, there is one way to cut so that each part is as long as it can be.
pub record OneCutting : Type 0 where
  pub found : (limit b : ℕ) (l : List Block) → 4 ≤ b → 64 + b ≤ limit → AreCuts limit b l (segments limit b l)
  pub only : (limit b : ℕ) (l : List Block) (parts : List (List Block)) → 4 ≤ b → 64 + b ≤ limit
      → AreCuts limit b l parts → segments limit b l ≡ parts

-- No way to cut within the limit has fewer parts.
abbrev pub Fewest : Type 0
Fewest = (limit b : ℕ) (l : List Block) (parts : List (List Block)) → Division limit b l parts
    → length (segments limit b l) ≤ length parts

-- All pieces together are little longer than the image, or than its blocks and 16 bytes for each.
pub record FewBytes : Type 0 where
  pub sparse : (limit : ℕ) (x : List ℕ) (h : Header) (cs : List Chunk) (rest : List ℕ) → Spells x h cs rest
      → length (concat (pieces limit h.blk_sz (classed cs))) + length rest
      ≤ length x + 68 * length (pieces limit h.blk_sz (classed cs))
  pub blocks : (limit b : ℕ) (l : List Block) → AreBlocks b l
      → length (concat (pieces limit b l)) ≤ length l * (b + 16) + 68 * length (pieces limit b l)
  pub count : (limit b : ℕ) (l : List Block) → length (pieces limit b l) ≡ length (segments limit b l)

-- Two images with one block size and one list of blocks have the same pieces, whatever their chunks.
abbrev pub SamePieces : Type 0
SamePieces = (limit : ℕ) (x y : List ℕ) (h k : Header) (cs ds : List Chunk) (rest more : List ℕ) → Spells x h cs rest
    → Spells y k ds more → h.blk_sz ≡ k.blk_sz → classed cs ≡ classed ds
    → pieces_of limit (outcome x) ≡ pieces_of limit (outcome y)

-- A raw image and its sparse form have the same pieces.
abbrev pub SameFromRaw : Type 0
SameFromRaw = (limit b r : ℕ) (x : List ℕ) → IsBlockSize b → 1 ≤ r → 12 + r * b < 2 ^ 32 → block_count b x < 2 ^ 32
    → pieces_of limit (outcome (spelling b r (classify b x))) ≡ pieces limit b (classify b x)

-- ---- flashing

-- what a device holds once pieces of these blocks are written over it one after the other
abbrev pub flashed_all : ℕ → List ℕ → List (List Block) → List ℕ
flashed_all b p [] = p
flashed_all b p (f ∷ fs) = flashed_all b (over p (cells b f)) fs

-- Flashing the pieces of an image in turn leaves any device as flashing the image does: as blocks, and as bytes.
pub record InTurn : Type 0 where
  pub blocks : (b : ℕ) (p : List ℕ) (l : List Block) (limit : ℕ) → b % 4 ≡ 0 → AreBlocks b l
      → flashed_all b p (frames 0 (segments limit b l)) ≡ over p (cells b l)
  pub bytes : (limit : ℕ) (p x : List ℕ) (h : Header) (cs : List Chunk) (rest : List ℕ) → Spells x h cs rest
      → 64 + h.blk_sz ≤ limit → limit < 2 ^ 32
      → flashed_in_turn p (pieces_of limit (outcome x)) ≡ flashed p x

-- A raw image goes through its sparse form: that expands to its bytes and zeros up to a whole block, and its pieces,
-- flashed in turn over any device with room for all blocks, leave it at the beginning.
pub record CarriesRaw : Type 0 where
  pub expands : (b r : ℕ) (x : List ℕ) → IsBlockSize b → 1 ≤ r → 12 + r * b < 2 ^ 32 → block_count b x < 2 ^ 32
      → laid (given (outcome (spelling b r (classify b x)))) ≡ filled_to (b * block_count b x) x
  pub flashes : (limit b r : ℕ) (x p : List ℕ) → IsBlockSize b → 1 ≤ r → 12 + r * b < 2 ^ 32 → block_count b x < 2 ^ 32
      → 64 + b ≤ limit → limit < 2 ^ 32 → b * block_count b x ≤ length p
      → take (length x) (flashed_in_turn p (pieces_of limit (outcome (spelling b r (classify b x))))) ≡ x

-- Flashing all pieces but the first i writes the blocks after those, and leaves what the first i pieces would write.
abbrev pub FromPiece : Type 0
FromPiece = (limit b i : ℕ) (p : List ℕ) (l : List Block) → IsBlockSize b → AreBlocks b l → length l < 2 ^ 32
    → 64 + b ≤ limit → limit < 2 ^ 32
    → let before = length (joined (take i (segments limit b l))) in flashed_in_turn p (drop i (pieces limit b l))
    ≡ over p (cells b (replicate before Skip ++ drop before l))

-- A device is mendable before the first piece, stays so whatever happens to bytes that the image writes after the
-- whole blocks, and stays so with one piece more. Flashing on from a block up to which all is whole makes it whole.
pub record Mends : Type 0 where
  pub first : (b : ℕ) (l : List Block) (p : List ℕ) → Mendable b l p p 0
  pub touched : (b : ℕ) (l : List Block) (p q r : List ℕ) (done : ℕ) → Mendable b l p q done → length r ≡ length q
      → ((i : ℕ) → (i < done * b) ⊎ (slice_index_or (cells b l) i None ≡ None) → slice_index r i ≡ slice_index q i)
      → Mendable b l p r done
  pub moved : (b : ℕ) (front s rest : List Block) (after : ℕ) (p q : List ℕ) → IsBlockSize b
      → AreBlocks b (front ++ (s ++ rest)) → Mendable b (front ++ (s ++ rest)) p q (length front)
      → Mendable b (front ++ (s ++ rest)) p (over q (cells b (framed (length front) s after))) (length front + length s)
  pub whole : (b : ℕ) (l : List Block) (p q : List ℕ) (done from : ℕ) → IsBlockSize b → AreBlocks b l
      → Mendable b l p q done → from ≤ done
      → over q (cells b (replicate from Skip ++ drop from l)) ≡ over p (cells b l)

-- ---- kinds

-- Each kind has a type number of its own, and no other number is one.
pub record OneCode : Type 0 where
  pub known : (k : ChunkKind) → kind_at (code k) ≡ Some k
  pub only : (n : ℕ) (k : ChunkKind) → kind_at n ≡ Some k → n ≡ code k
