-- The meaning of bytes as a sparse image, as one function of all bytes. It is an image and the rest after it, or the
-- first fault from left to right with all that came before it. `Fails.antt` says the same without reading.
use Rattle.std.specs.Prelude.{ℕ, zero, suc, ◌+◌, ◌%◌, List, [], ◌∷◌, ◌++◌, length, take, drop, map, Option, Some, None}
use Rattle.std.specs.Prelude.{Result, Ok, Err, ◌==◌, nat_lt, ◌||◌, not, if◌then◌else◌}
use Rattle.abt_sparse.specs.declared.fault.SparseFault.{SparseFault}
use Rattle.abt_sparse.specs.declared.fault.SparseFault.TheVariants.{Magic, Major, FileHeaderSize, ChunkHeaderSize}
use Rattle.abt_sparse.specs.declared.fault.SparseFault.TheVariants.{BlockSize, ChunkType, ChunkLength, TooManyBlocks}
use Rattle.abt_sparse.specs.declared.fault.SparseFault.TheVariants.{TooFewBlocks, Truncated}
use Rattle.abt_sparse.specs.declared.kind.ChunkKind.{ChunkKind}
use Rattle.abt_sparse.specs.declared.kind.ChunkKind.TheVariants as kinds
use Rattle.abt_sparse.specs.Block.{split, cells}
pub use Rattle.abt_sparse.specs.Field.{number_at}
use Rattle.abt_sparse.specs.Chunk.{Header, Chunk, Raws, Fills, Skips, Crc, classed}
pub use Rattle.abt_sparse.specs.Chunk.{data_len, counted, partial_of}

-- the fields of a header, as they are stored
unfoldable pub header_at : List ℕ → Header
header_at bytes = record {
  minor = number_at 6 2 bytes;
  file_hdr_sz = number_at 8 2 bytes;
  chunk_hdr_sz = number_at 10 2 bytes;
  blk_sz = number_at 12 4 bytes;
  total_blks = number_at 16 4 bytes;
  total_chunks = number_at 20 4 bytes;
  image_checksum = number_at 24 4 bytes;
}

-- the header in the first 28 bytes, or the first of the five checks that fails
unfoldable pub checked_header : List ℕ → Result Header SparseFault
checked_header bytes =
    let h = header_at bytes in
    if not (number_at 0 4 bytes == 0xED26FF3A) then Err Magic
    else if not (number_at 4 2 bytes == 1) then Err (Major (number_at 4 2 bytes))
    else if nat_lt h.file_hdr_sz 28 then Err (FileHeaderSize h.file_hdr_sz)
    else if nat_lt h.chunk_hdr_sz 12 then Err (ChunkHeaderSize h.chunk_hdr_sz)
    else if h.blk_sz == 0 || not (h.blk_sz % 4 == 0) then Err (BlockSize h.blk_sz)
    else Ok h

-- the kind with this type number
abbrev pub kind_at : ℕ → Option ChunkKind
kind_at n =
    if n == 0xCAC1 then Some kinds.Raw
    else if n == 0xCAC2 then Some kinds.Fill
    else if n == 0xCAC3 then Some kinds.Skip
    else if n == 0xCAC4 then Some kinds.Crc
    else None

-- the chunk of this kind, with so many blocks in its header and these bytes after it
abbrev pub chunk_from : ℕ → ChunkKind → ℕ → List ℕ → Chunk
chunk_from b kinds.Raw n payload = Raws (split b n payload)
chunk_from b kinds.Fill n payload = Fills payload n
chunk_from b kinds.Skip n payload = Skips n
chunk_from b kinds.Crc n payload = Crc payload

-- A chunk with its blocks and the bytes after it, or a fault with the raw bytes that came of it.
pub data ChunkRead : Type 0 where
  Got : Chunk → ℕ → List ℕ → ChunkRead
  Bad : SparseFault → List ℕ → ChunkRead

-- Chunk i at the beginning of bytes, where the whole input has size bytes and the chunks before it have so many blocks:
-- first of a kind that is known, then of any, then with the header not yet there.
abbrev pub chunk_body : Header → ℕ → ℕ → ℕ → List ℕ → ChunkKind → ChunkRead
chunk_body h size i have bytes k =
    let n = number_at 4 4 bytes in
    let total = number_at 8 4 bytes in
    if not (total == h.chunk_hdr_sz + data_len h.blk_sz k n) then Bad (ChunkLength i) []
    else if nat_lt h.total_blks (have + counted k n) then Bad (TooManyBlocks i) []
    else if nat_lt (length bytes) total then Bad (Truncated size) (partial_of k (drop h.chunk_hdr_sz bytes))
    else Got (chunk_from h.blk_sz k n (drop h.chunk_hdr_sz (take total bytes))) (counted k n) (drop total bytes)

abbrev pub chunk_known : Header → ℕ → ℕ → ℕ → List ℕ → Option ChunkKind → ChunkRead
chunk_known h size i have bytes None = Bad (ChunkType i (number_at 0 2 bytes)) []
chunk_known h size i have bytes (Some k) = chunk_body h size i have bytes k

unfoldable pub chunk_at : Header → ℕ → ℕ → ℕ → List ℕ → ChunkRead
chunk_at h size i have bytes =
    if nat_lt (length bytes) 12 then Bad (Truncated size) []
    else chunk_known h size i have bytes (kind_at (number_at 0 2 bytes))

-- The chunks and the rest, or the fault, the chunks before it and the raw bytes that came after them.
pub data ChunksRead : Type 0 where
  Done : List Chunk → List ℕ → ChunksRead
  Failed : SparseFault → List Chunk → List ℕ → ChunksRead

-- a chunk and what is read after it
abbrev pub behind : Chunk → ChunksRead → ChunksRead
behind c (Done cs rest) = Done (c ∷ cs) rest
behind c (Failed f cs came) = Failed f (c ∷ cs) came

-- the chunks at the beginning of bytes, where so many are left
unfoldable pub chunks_at : Header → ℕ → ℕ → ℕ → ℕ → List ℕ → ChunksRead
chunks_at h size i have zero bytes = if have == h.total_blks then Done [] bytes else Failed (TooFewBlocks have) [] []
chunks_at h size i have (suc left) bytes = elim (chunk_at h size i have bytes) [
  | Got c n rest ↦ behind c (chunks_at h size (i + 1) (have + n) left rest)
  | Bad f came ↦ Failed f [] came
]

-- An image with its chunks and the bytes after it, or a fault with the cells that came before it.
pub data Outcome : Type 0 where
  Image : Header → List Chunk → List ℕ → Outcome
  Fault : SparseFault → List (Option ℕ) → Outcome

abbrev pub outcome_of : Header → ChunksRead → Outcome
outcome_of h (Done cs rest) = Image h cs rest
outcome_of h (Failed f cs came) = Fault f (cells h.blk_sz (classed cs) ++ map (λ x. Some x) came)

-- the chunks after a header with its extra bytes
unfoldable pub body_at : Header → List ℕ → ChunksRead
body_at h bytes =
    if nat_lt (length bytes) h.file_hdr_sz then Failed (Truncated (length bytes)) [] []
    else chunks_at h (length bytes) 0 0 h.total_chunks (drop h.file_hdr_sz bytes)

-- what bytes are
unfoldable pub outcome : List ℕ → Outcome
outcome bytes =
    if nat_lt (length bytes) 28 then Fault (Truncated (length bytes)) []
    else elim (checked_header bytes) [
      | Err f ↦ Fault f []
      | Ok h ↦ outcome_of h (body_at h bytes)
    ]
