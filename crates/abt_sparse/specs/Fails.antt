-- What it means that bytes are a sparse image, and that they have a fault, independently of how either is found.
use Rattle.std.specs.Prelude.{◌≡◌, ℕ, ◌+◌, ◌%◌, ◌≤◌, ◌<◌, ◌⊎◌, List, [], ◌∷◌, ◌++◌, length, map, drop, Option, Some}
use Rattle.abt_sparse.specs.declared.fault.SparseFault.{SparseFault}
use Rattle.abt_sparse.specs.declared.fault.SparseFault.TheVariants.{Magic, Major, FileHeaderSize, ChunkHeaderSize}
use Rattle.abt_sparse.specs.declared.fault.SparseFault.TheVariants.{BlockSize, ChunkType, ChunkLength, TooManyBlocks}
use Rattle.abt_sparse.specs.declared.fault.SparseFault.TheVariants.{TooFewBlocks, Truncated}
use Rattle.abt_sparse.specs.declared.kind.ChunkKind.{ChunkKind}
use Rattle.abt_sparse.specs.Field.{number_at}
use Rattle.abt_sparse.specs.Block.{cells}
use Rattle.abt_sparse.specs.Chunk.{Header, IsHeader, header_record, Chunk, code, count, classed, data_len, counted}
use Rattle.abt_sparse.specs.Chunk.{partial_of, SpellsChunks}
use Rattle.abt_sparse.specs.Reading.{Outcome, Image, Fault}

-- ---- an image

-- x begins with this header and the bytes after its 28th, and then the rest
pub record SpellsHeader (x : List ℕ) (h : Header) (rest : List ℕ) : Type 0 where
  pub extra : List ℕ
  pub fits : IsHeader h
  pub extra_long : length extra + 28 ≡ h.file_hdr_sz
  pub spelled : x ≡ header_record h ++ (extra ++ rest)

-- the blocks that chunks count
abbrev pub counted_in : List Chunk → ℕ
counted_in [] = 0
counted_in (c ∷ cs) = count c + counted_in cs

-- a header, chunks as far as it allows them, and then the rest
pub record Front (x : List ℕ) (h : Header) (cs : List Chunk) (rest : List ℕ) : Type 0 where
  pub after : List ℕ
  pub header : SpellsHeader x h after
  pub chunks : SpellsChunks h cs after rest
  pub within : length cs ≤ h.total_chunks
  pub room : counted_in cs ≤ h.total_blks

-- a whole image at the beginning of x, and then the rest: all its chunks, with all its blocks
pub record Spells (x : List ℕ) (h : Header) (cs : List Chunk) (rest : List ℕ) : Type 0 where
  pub front : Front x h cs rest
  pub whole : length cs ≡ h.total_chunks
  pub full : counted_in cs ≡ h.total_blks

-- ---- a fault

-- the two fields that say 'sparse image, version 1'
pub record IsSparse1 (x : List ℕ) : Type 0 where
  pub magic : number_at 0 4 x ≡ 0xED26FF3A
  pub major : number_at 4 2 x ≡ 1

-- The check of a header that fails first, from left to right.
pub data HeaderFails (x : List ℕ) : SparseFault → Type 0 where
  no_magic : (number_at 0 4 x ≡ 0xED26FF3A → ⊥) → HeaderFails x Magic
  other_major : number_at 0 4 x ≡ 0xED26FF3A → (number_at 4 2 x ≡ 1 → ⊥) → HeaderFails x (Major (number_at 4 2 x))
  short_header : IsSparse1 x → number_at 8 2 x < 28 → HeaderFails x (FileHeaderSize (number_at 8 2 x))
  short_chunk_header : IsSparse1 x → 28 ≤ number_at 8 2 x → number_at 10 2 x < 12
      → HeaderFails x (ChunkHeaderSize (number_at 10 2 x))
  bad_block_size : IsSparse1 x → 28 ≤ number_at 8 2 x → 12 ≤ number_at 10 2 x
      → (number_at 12 4 x ≡ 0) ⊎ (number_at 12 4 x % 4 ≡ 0 → ⊥) → HeaderFails x (BlockSize (number_at 12 4 x))

-- y begins with the header of a chunk of this kind, which counts n blocks and says that the chunk has total bytes
pub record BeginsChunk (y : List ℕ) (k : ChunkKind) (n total : ℕ) : Type 0 where
  pub long : 12 ≤ length y
  pub chunk_type : number_at 0 2 y ≡ code k
  pub chunk_sz : number_at 4 4 y ≡ n
  pub total_sz : number_at 8 4 y ≡ total

-- The first check of chunk i that fails, `have` blocks and then y after them, in size bytes; the raw bytes that came.
pub data ChunkFails (h : Header) (size i have : ℕ) (y : List ℕ) : SparseFault → List ℕ → Type 0 where
  no_header : length y < 12 → ChunkFails h size i have y (Truncated size) []
  unknown_type : 12 ≤ length y → ((k : ChunkKind) → number_at 0 2 y ≡ code k → ⊥)
      → ChunkFails h size i have y (ChunkType i (number_at 0 2 y)) []
  wrong_length : (k : ChunkKind) (n total : ℕ) → BeginsChunk y k n total
      → (total ≡ h.chunk_hdr_sz + data_len h.blk_sz k n → ⊥) → ChunkFails h size i have y (ChunkLength i) []
  too_many : (k : ChunkKind) (n total : ℕ) → BeginsChunk y k n total → total ≡ h.chunk_hdr_sz + data_len h.blk_sz k n
      → h.total_blks < have + counted k n → ChunkFails h size i have y (TooManyBlocks i) []
  cut_short : (k : ChunkKind) (n total : ℕ) → BeginsChunk y k n total → total ≡ h.chunk_hdr_sz + data_len h.blk_sz k n
      → have + counted k n ≤ h.total_blks → length y < total
      → ChunkFails h size i have y (Truncated size) (partial_of k (drop h.chunk_hdr_sz y))

-- x has this fault, after these cells: those of the chunks before it, and the raw bytes that came of that chunk.
pub data Fails (x : List ℕ) : SparseFault → List (Option ℕ) → Type 0 where
  no_image : length x < 28 → Fails x (Truncated (length x)) []
  bad_header : (f : SparseFault) → 28 ≤ length x → HeaderFails x f → Fails x f []
  cut_header : (h : Header) (y : List ℕ) → IsHeader h → x ≡ header_record h ++ y → length x < h.file_hdr_sz
      → Fails x (Truncated (length x)) []
  bad_chunk : (h : Header) (cs : List Chunk) (y : List ℕ) (f : SparseFault) (came : List ℕ) → Front x h cs y
      → length cs < h.total_chunks → ChunkFails h (length x) (length cs) (counted_in cs) y f came
      → Fails x f (cells h.blk_sz (classed cs) ++ map (λ b. Some b) came)
  too_few : (h : Header) (cs : List Chunk) (y : List ℕ) → Front x h cs y → length cs ≡ h.total_chunks
      → counted_in cs < h.total_blks → Fails x (TooFewBlocks (counted_in cs)) (cells h.blk_sz (classed cs))

-- the bytes have this outcome
abbrev pub IsOutcome : List ℕ → Outcome → Type 0
IsOutcome x (Image h cs rest) = Spells x h cs rest
IsOutcome x (Fault f given) = Fails x f given
