-- Sparse headers and chunks, and their encoding in bytes.
use Rattle.std.specs.Prelude.{◌≡◌, ℕ, zero, suc, ◌+◌, ◌*◌, ◌<◌, ◌≤◌, ◌^◌, List, [], ◌∷◌, ◌++◌, length, take, drop, map}
use Rattle.std.specs.Prelude.{replicate, ⊤}
use Rattle.std.specs.List.{flat_map, concat, AllByRecursion}
use Rattle.std.specs.Int.{w16, w32, to_le_bytes}
use Rattle.abt_sparse.specs.declared.kind.ChunkKind.{ChunkKind}
use Rattle.abt_sparse.specs.declared.kind.ChunkKind.TheVariants as kinds
use Rattle.abt_sparse.specs.Block.{Block, Raw, Fill, Skip, IsBlockSize}
use Rattle.abt_sparse.specs.Runs.{runs}

-- the fields of a header (`sparse_header_t`) that are not fixed
pub record Header : Type 0 where
  pub minor : ℕ
  pub file_hdr_sz : ℕ
  pub chunk_hdr_sz : ℕ
  pub blk_sz : ℕ
  pub total_blks : ℕ
  pub total_chunks : ℕ
  pub image_checksum : ℕ

-- the 28 bytes of a header
abbrev pub header_record : Header → List ℕ
header_record h =
    to_le_bytes w32 0xED26FF3A ++ (to_le_bytes w16 1 ++ (to_le_bytes w16 h.minor
    ++ (to_le_bytes w16 h.file_hdr_sz ++ (to_le_bytes w16 h.chunk_hdr_sz ++ (to_le_bytes w32 h.blk_sz
    ++ (to_le_bytes w32 h.total_blks ++ (to_le_bytes w32 h.total_chunks ++ to_le_bytes w32 h.image_checksum)))))))

-- the fields fit their bytes, and the checks of a header pass
pub record IsHeader (h : Header) : Type 0 where
  pub minor : h.minor < 2 ^ 16
  pub file_hdr_sz : (28 ≤ h.file_hdr_sz) × (h.file_hdr_sz < 2 ^ 16)
  pub chunk_hdr_sz : (12 ≤ h.chunk_hdr_sz) × (h.chunk_hdr_sz < 2 ^ 16)
  pub blk_sz : IsBlockSize h.blk_sz
  pub total_blks : h.total_blks < 2 ^ 32
  pub total_chunks : h.total_chunks < 2 ^ 32
  pub image_checksum : h.image_checksum < 2 ^ 32

-- A chunk: blocks with their bytes, one word over so many blocks, so many blocks that are skipped, or a checksum.
pub data Chunk : Type 0 where
  Raws : List (List ℕ) → Chunk
  Fills : List ℕ → ℕ → Chunk
  Skips : ℕ → Chunk
  Crc : List ℕ → Chunk

-- the type number of a kind
abbrev pub code : ChunkKind → ℕ
code kinds.Raw = 0xCAC1
code kinds.Fill = 0xCAC2
code kinds.Skip = 0xCAC3
code kinds.Crc = 0xCAC4

abbrev pub kind : Chunk → ChunkKind
kind (Raws blocks) = kinds.Raw
kind (Fills word n) = kinds.Fill
kind (Skips n) = kinds.Skip
kind (Crc word) = kinds.Crc

-- the blocks that a chunk counts
abbrev pub count : Chunk → ℕ
count (Raws blocks) = length blocks
count (Fills word n) = n
count (Skips n) = n
count (Crc word) = 0

-- the bytes after the chunk's header
abbrev pub data_of : Chunk → List ℕ
data_of (Raws blocks) = concat blocks
data_of (Fills word n) = word
data_of (Skips n) = []
data_of (Crc word) = word

-- each raw block has b bytes, and a word four
abbrev pub IsChunk : ℕ → Chunk → Type 0
IsChunk b (Raws blocks) = AllByRecursion (λ x. length x ≡ b) blocks
IsChunk b (Fills word n) = length word ≡ 4
IsChunk b (Skips n) = ⊤
IsChunk b (Crc word) = length word ≡ 4

-- the bytes of data after a chunk's header that counts n blocks of b bytes
abbrev pub data_len : ℕ → ChunkKind → ℕ → ℕ
data_len b kinds.Raw n = n * b
data_len b kinds.Fill n = 4
data_len b kinds.Skip n = 0
data_len b kinds.Crc n = 4

-- the blocks that such a header gives: a checksum has none, whatever its header counts
abbrev pub counted : ChunkKind → ℕ → ℕ
counted kinds.Crc n = 0
counted k n = n

-- what the bytes of a chunk's data give by themselves, where the rest is missing: raw bytes do, others nothing
abbrev pub partial_of : ChunkKind → List ℕ → List ℕ
partial_of kinds.Raw payload = payload
partial_of k payload = []

-- the blocks of a chunk, one by one, and those of several
abbrev pub blocks_of : Chunk → List Block
blocks_of (Raws blocks) = map (λ x. Raw x) blocks
blocks_of (Fills word n) = replicate n (Fill word)
blocks_of (Skips n) = replicate n Skip
blocks_of (Crc word) = []

abbrev pub classed : List Chunk → List Block
classed cs = flat_map blocks_of cs

-- a chunk's header with these fields and extra bytes, and its data
abbrev pub chunk_bytes : ℕ → List ℕ → ℕ → ℕ → List ℕ → List ℕ → List ℕ
chunk_bytes type reserved blocks total extra payload =
    to_le_bytes w16 type ++ (reserved ++ (to_le_bytes w32 blocks ++ (to_le_bytes w32 total ++ (extra ++ payload))))

-- The bytes encode the chunk: its reserved field, its header past 12 bytes and a checksum's count may be anything.
pub record SpellsChunk (h : Header) (c : Chunk) (bytes : List ℕ) : Type 0 where
  pub reserved : ℕ
  pub blocks : ℕ
  pub extra : List ℕ
  pub blocks_fit : blocks < 2 ^ 32
  pub extra_long : length extra + 12 ≡ h.chunk_hdr_sz
  pub total_fits : h.chunk_hdr_sz + length (data_of c) < 2 ^ 32
  pub counted : (kind c ≡ kinds.Crc → ⊥) → blocks ≡ count c
  pub is_chunk : IsChunk h.blk_sz c
  pub spelled : bytes ≡ chunk_bytes (code (kind c)) (to_le_bytes w16 reserved) blocks
      (h.chunk_hdr_sz + length (data_of c)) extra (data_of c)

-- the chunks one after the other, and then the rest
abbrev pub SpellsChunks : Header → List Chunk → List ℕ → List ℕ → Type 0
SpellsChunks h [] bytes rest = bytes ≡ rest
SpellsChunks h (c ∷ cs) bytes rest = (front : List ℕ) × (after : List ℕ) × SpellsChunk h c front
    × (bytes ≡ front ++ after) × SpellsChunks h cs after rest

-- ---- the one encoding that is written

-- a chunk with a header of 12 bytes, and the header of 28 bytes of an image of such
abbrev pub plain : Chunk → List ℕ
plain c = chunk_bytes (code (kind c)) (to_le_bytes w16 0) (count c) (12 + length (data_of c)) [] (data_of c)

abbrev pub plain_header : ℕ → ℕ → ℕ → Header
plain_header b n k = record
    { minor = 0; file_hdr_sz = 28; chunk_hdr_sz = 12; blk_sz = b; total_blks = n; total_chunks = k; image_checksum = 0 }

-- the chunk of a run
abbrev pub raw_bytes : Block → List ℕ
raw_bytes (Raw x) = x
raw_bytes x = []

abbrev pub chunk_of_run : List Block → Chunk
chunk_of_run [] = Skips 0
chunk_of_run (Raw x ∷ g) = Raws (x ∷ map raw_bytes g)
chunk_of_run (Fill w ∷ g) = Fills w (suc (length g))
chunk_of_run (Skip ∷ g) = Skips (suc (length g))

-- an image of n blocks in these chunks
abbrev pub image_of : ℕ → ℕ → List Chunk → List ℕ
image_of b n cs = header_record (plain_header b n (length cs)) ++ flat_map plain cs

-- a run of raw blocks in chunks of r blocks, the last one shorter
abbrev pub in_rs : ℕ → ℕ → List (List ℕ) → List Chunk
in_rs r turns [] = []
in_rs r zero (x ∷ xs) = []
in_rs r (suc turns) (x ∷ xs) = Raws (take r (x ∷ xs)) ∷ in_rs r turns (drop r (x ∷ xs))

abbrev pub cut_run : ℕ → Chunk → List Chunk
cut_run r (Raws blocks) = in_rs r (length blocks) blocks
cut_run r c = c ∷ []

-- the chunks of an image: one for each run, a raw run cut every r blocks
abbrev pub chunks_of : ℕ → List Block → List Chunk
chunks_of r blocks = flat_map (λ g. cut_run r (chunk_of_run g)) (runs blocks)

-- an image of these blocks
abbrev pub spelling : ℕ → ℕ → List Block → List ℕ
spelling b r blocks = image_of b (length blocks) (chunks_of r blocks)

-- the same with each run one chunk, as a piece has it
abbrev pub piece : ℕ → List Block → List ℕ
piece b blocks = image_of b (length blocks) (map chunk_of_run (runs blocks))
