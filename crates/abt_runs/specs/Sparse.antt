-- An opened sparse image, and places in it.
use Rattle.std.specs.Prelude.{◌≡◌, ℕ, zero, suc, ◌+◌, ◌-◌, ◌*◌, ◌≤◌, ◌<◌, ◌==◌, List, [], ◌∷◌, ◌++◌, length, drop}
use Rattle.std.specs.Prelude.{if◌then◌else◌, ⊤}
use Rattle.std.specs.Coded.{le_prop}
use Rattle.abt_sparse.specs.Block.{Block}
use Rattle.abt_sparse.specs.Chunk.{Header, Chunk, Raws, Fills, Skips, Crc, classed}
use Rattle.abt_sparse.specs.Reading.{ChunkRead, Got, Done, chunk_at, chunks_at, Outcome, Image, Fault, outcome}
use Rattle.abt_sparse.specs.Fails.{counted_in}
use Rattle.abt_runs.specs.declared.part.Cursor.{Cursor}

-- the image has this header, and its source so many bytes, of which it takes so many
pub record SparseOpened (h : Header) (long image : ℕ) (x : List ℕ) : Type 0 where
  pub chunks : List Chunk
  pub rest : List ℕ
  pub is_image : outcome x ≡ Image h chunks rest
  pub long_is : length x ≡ long
  pub image_is : image + length rest ≡ length x

-- its blocks
abbrev pub blocks_in : Outcome → List Block
blocks_in (Image h cs rest) = classed cs
blocks_in (Fault f cells) = []

abbrev pub sparse_list : List ℕ → List Block
sparse_list x = blocks_in (outcome x)

-- so many blocks of the first chunk may be passed without the others: those of raw chunks alone
abbrev pub Inside : ℕ → List Chunk → Type 0
Inside zero cs = ⊤
Inside (suc n) (Raws blocks ∷ cs) = suc n < length blocks
Inside (suc n) cs = ⊥

-- The place c is before the chunks `after`, with c.used blocks of the first of them passed.
pub record SparsePlace (h : Header) (x : List ℕ) (c : Cursor) : Type 0 where
  pub before : List Chunk
  pub after : List Chunk
  pub rest : List ℕ
  pub is_image : outcome x ≡ Image h (before ++ after) rest
  pub ahead : chunks_at h (length x) c.chunk (counted_in before) (h.total_chunks - c.chunk) (drop c.at x)
      ≡ Done after rest
  pub chunk : c.chunk ≡ length before
  pub block : c.block ≡ counted_in before + c.used
  pub inside : Inside c.used after

-- how many bytes a pass may have read before a place, and how many the blocks before it take in pieces
abbrev pub sparse_charge : Header → Cursor → ℕ
sparse_charge h c = c.at + (if c.used == 0 then 0 else h.chunk_hdr_sz + c.used * h.blk_sz)

-- the numbers of a place alone
pub record SparseWithin (h : Header) (image : ℕ) (c : Cursor) : Type 0 where
  pub chunk : c.chunk ≤ h.total_chunks
  pub block : c.block ≤ h.total_blks
  pub used : c.used ≤ c.block
  pub charge : sparse_charge h c ≤ image
  pub going : 0 < c.used → c.chunk < h.total_chunks

pub SparseWithin-prop : (h : Header) (image : ℕ) (c : Cursor) → IsProp (SparseWithin h image c)
SparseWithin-prop h image c = Prim.hlevel (le_prop)

-- how many bytes chunks take with their headers
abbrev pub chunk_length : Header → Chunk → ℕ
chunk_length h (Raws blocks) = h.chunk_hdr_sz + length blocks * h.blk_sz
chunk_length h (Fills word n) = h.chunk_hdr_sz + 4
chunk_length h (Skips n) = h.chunk_hdr_sz + 0
chunk_length h (Crc word) = h.chunk_hdr_sz + 4

abbrev pub lengths : Header → List Chunk → ℕ
lengths h [] = 0
lengths h (c ∷ cs) = chunk_length h c + lengths h cs

-- where the raw data from a place on begins
abbrev pub data_place : Header → Cursor → ℕ
data_place h c = c.at + h.chunk_hdr_sz + c.used * h.blk_sz

-- how many blocks a raw chunk has
abbrev pub raw_blocks : ChunkRead → ℕ
raw_blocks (Got (Raws blocks) n rest) = length blocks
raw_blocks r = 0

-- how many of them are left from the place on
abbrev pub blocks_together : Header → List ℕ → Cursor → ℕ
blocks_together h x c = raw_blocks (chunk_at h (length x) c.chunk (c.block - c.used) (drop c.at x)) - c.used
