-- Worked images: their bytes, and what the definitions make of them.
use Rattle.std.specs.Prelude.{◌≡◌, ℕ, ◌+◌, ◌-◌, ◌*◌, nat_lt, ◌==◌, true, false, List, [], ◌∷◌, ◌++◌, length, take, map}
use Rattle.std.specs.Prelude.{replicate, Option, Some, None, codes, if◌then◌else◌}
use Rattle.abt_sparse.specs.declared.fault.SparseFault.TheVariants.{Magic, Major, FileHeaderSize, ChunkHeaderSize}
use Rattle.abt_sparse.specs.declared.fault.SparseFault.TheVariants.{BlockSize, ChunkType, ChunkLength, TooManyBlocks}
use Rattle.abt_sparse.specs.declared.fault.SparseFault.TheVariants.{TooFewBlocks, Truncated}
use Rattle.abt_sparse.specs.declared.kind.ChunkKind.TheVariants as kinds
use Rattle.abt_sparse.specs.Block.{over, cells, expansion, classify}
use Rattle.abt_sparse.specs.Runs.{weight, segments}
use Rattle.abt_sparse.specs.Chunk.{Header, Chunk, Raws, Fills, Skips, Crc, classed, count, chunks_of, spelling}
use Rattle.abt_sparse.specs.Chunk.{plain_header}
use Rattle.abt_sparse.specs.Reading.{Outcome, Image, Fault, outcome}
use Rattle.abt_sparse.specs.ChunkHead.{chunk_record}
use Rattle.abt_sparse.specs.Pieces.{pieces, flashed_in_turn, flashed}

-- ---- bytes by hexadecimal digits in lower case; spaces are skipped

abbrev pub digit : ℕ → ℕ
digit c = if nat_lt c 97 then c - 48 else c - 87

-- after the high digit of a byte, or after none
abbrev pub hex_behind : Option ℕ → List ℕ → List ℕ
hex_behind high [] = []
hex_behind None (c ∷ text) = elim (c == 32) [ true ↦ hex_behind None text | false ↦ hex_behind (Some (digit c)) text ]
hex_behind (Some high) (c ∷ text) = (high * 16 + digit c) ∷ hex_behind None text

abbrev pub hex : List ℕ → List ℕ
hex text = hex_behind None text

-- the cells of bytes
abbrev pub some : List ℕ → List (Option ℕ)
some bytes = map (λ x. Some x) bytes

-- ---- images

-- chunks of a block of four bytes: raw, filled with a word, skipped, and raw again; and a checksum
abbrev pub raw_abcd : List ℕ
raw_abcd = hex (codes "c1ca0000 01000000 10000000 41424344")

abbrev pub fill_4321 : List ℕ
fill_4321 = hex (codes "c2ca0000 01000000 10000000 04030201")

abbrev pub skip_one : List ℕ
skip_one = hex (codes "c3ca0000 01000000 0c000000")

abbrev pub raw_wxyz : List ℕ
raw_wxyz = hex (codes "c1ca0000 01000000 10000000 5758595a")

abbrev pub checksum : List ℕ
checksum = hex (codes "c4ca0000 00000000 10000000 78563412")

-- three blocks in three chunks
abbrev pub three_blocks : List ℕ
three_blocks = hex (codes "3aff26ed 01000000 1c000c00 04000000 03000000 03000000 00000000")

-- a raw block, a filled one and one that is skipped
abbrev pub small_image : List ℕ
small_image = three_blocks ++ raw_abcd ++ fill_4321 ++ skip_one

abbrev pub small_chunks : List Chunk
small_chunks = Raws (codes "ABCD" ∷ []) ∷ Fills (4 ∷ 3 ∷ 2 ∷ 1 ∷ []) 1 ∷ Skips 1 ∷ []

-- the same followed by a checksum, and a byte that is no part of it
abbrev pub checksum_image : List ℕ
checksum_image = hex (codes "3aff26ed 01000000 1c000c00 04000000 03000000 04000000 00000000") ++ raw_abcd ++ fill_4321
    ++ skip_one ++ checksum ++ 0x7f ∷ []

abbrev pub checksum_chunks : List Chunk
checksum_chunks =
    Raws (codes "ABCD" ∷ []) ∷ Fills (4 ∷ 3 ∷ 2 ∷ 1 ∷ []) 1 ∷ Skips 1 ∷ Crc (0x78 ∷ 0x56 ∷ 0x34 ∷ 0x12 ∷ []) ∷ []

-- raw, filled, raw
abbrev pub twice_raw_image : List ℕ
twice_raw_image = three_blocks ++ raw_abcd ++ fill_4321 ++ raw_wxyz

abbrev pub twice_raw_chunks : List Chunk
twice_raw_chunks = Raws (codes "ABCD" ∷ []) ∷ Fills (4 ∷ 3 ∷ 2 ∷ 1 ∷ []) 1 ∷ Raws (codes "WXYZ" ∷ []) ∷ []

-- headers of 32 and 16 bytes
abbrev pub long_image : List ℕ
long_image = hex (codes "3aff26ed 01000000 20001000 04000000 01000000 01000000 00000000 aabbccdd")
    ++ hex (codes "c3ca0000 01000000 10000000 eeeeeeee")

abbrev pub long_header : Header
long_header = record {
  minor = 0;
  file_hdr_sz = 32;
  chunk_hdr_sz = 16;
  blk_sz = 4;
  total_blks = 1;
  total_chunks = 1;
  image_checksum = 0;
}

-- no blocks and no chunks
abbrev pub image_nothing : List ℕ
image_nothing = hex (codes "3aff26ed 01000000 1c000c00 04000000 00000000 00000000 00000000")

-- skipped blocks in three chunks, with a raw chunk of no blocks between
abbrev pub skips_image : List ℕ
skips_image =
    hex (codes "3aff26ed 01000000 1c000c00 04000000 05000000 04000000 00000000")
    ++ hex (codes "c3ca0000 02000000 0c000000")
    ++ hex (codes "c1ca0000 00000000 0c000000")
    ++ hex (codes "c3ca0000 02000000 0c000000")
    ++ skip_one

abbrev pub skips_chunks : List Chunk
skips_chunks = Skips 2 ∷ Raws [] ∷ Skips 2 ∷ Skips 1 ∷ []

-- a minor version, reserved fields, a checksum of the image and a block count of a checksum that say nothing
abbrev pub free_image : List ℕ
free_image =
    hex (codes "3aff26ed 01000700 1c000c00 04000000 01000000 02000000 78563412")
    ++ hex (codes "c4ca3412 ffffffff 10000000 00000000")
    ++ hex (codes "c3ca3412 01000000 0c000000")

abbrev pub free_header : Header
free_header = record {
  minor = 7;
  file_hdr_sz = 28;
  chunk_hdr_sz = 12;
  blk_sz = 4;
  total_blks = 1;
  total_chunks = 2;
  image_checksum = 0x12345678;
}

-- ---- what is read

pub record WorkedImages : Type 0 where
  pub small : outcome small_image ≡ Image (plain_header 4 3 3) small_chunks []
  pub small_long : length small_image ≡ 72
  pub small_expanded : expansion 4 (classed small_chunks) ≡ hex (codes "41424344 04030201 00000000")
  pub small_laid : over (replicate 16 0xff) (cells 4 (classed small_chunks))
      ≡ hex (codes "41424344 04030201 ffffffff ffffffff")
  pub small_flashed : flashed (replicate 16 0xff) small_image ≡ hex (codes "41424344 04030201 ffffffff ffffffff")
  pub with_checksum : outcome checksum_image ≡ Image (plain_header 4 3 4) checksum_chunks (0x7f ∷ [])
  pub with_checksum_long : length checksum_image ≡ 89
  pub twice_raw : outcome twice_raw_image ≡ Image (plain_header 4 3 3) twice_raw_chunks []
  pub long : outcome long_image ≡ Image long_header (Skips 1 ∷ []) []
  pub long_expanded : expansion 4 (classed (Skips 1 ∷ [])) ≡ hex (codes "00000000")
  pub nothing : outcome image_nothing ≡ Image (plain_header 4 0 0) [] []
  pub nothing_expanded : expansion 4 [] ≡ []
  pub skips : outcome skips_image ≡ Image (plain_header 4 5 4) skips_chunks []
  pub free : outcome free_image ≡ Image free_header (Crc (0 ∷ 0 ∷ 0 ∷ 0 ∷ []) ∷ Skips 1 ∷ []) []
  pub most_blocks : outcome
      (hex (codes "3aff26ed 01000000 1c000c00 04000000 ffffffff 01000000 00000000 c3ca0000 ffffffff 0c000000"))
      ≡ Image (plain_header 4 0xffffffff 1) (Skips 0xffffffff ∷ []) []
  pub large_raw : chunk_record (record { kind = kinds.Raw; blocks = 16385; total = 65552 }) 0
      ≡ hex (codes "c1ca0000 01400000 10000100")

-- ---- which images have a fault

-- a header of 28 bytes that fails, and nothing after it
abbrev pub header_fault : List ℕ → Outcome
header_fault text = outcome (hex text)

-- chunks after a header of two blocks of four bytes and two chunks
abbrev pub chunk_fault : List ℕ → Outcome
chunk_fault text = outcome (hex (codes "3aff26ed 01000000 1c000c00 04000000 02000000 02000000 00000000") ++ hex text)

pub record WorkedFaults : Type 0 where
  pub no_bytes : outcome [] ≡ Fault (Truncated 0) []
  pub no_header : outcome (take 27 small_image) ≡ Fault (Truncated 27) []
  pub bare_header : outcome (take 28 small_image) ≡ Fault (Truncated 28) []
  pub magic_first : header_fault (codes "3aff26ee 02000000 1b000b00 06000000 03000000 03000000 00000000")
      ≡ Fault Magic []
  pub then_major : header_fault (codes "3aff26ed 02000000 1b000b00 06000000 03000000 03000000 00000000")
      ≡ Fault (Major 2) []
  pub then_header_size : header_fault (codes "3aff26ed 01000000 1b000b00 06000000 03000000 03000000 00000000")
      ≡ Fault (FileHeaderSize 27) []
  pub then_chunk_header_size : header_fault (codes "3aff26ed 01000000 1c000b00 06000000 03000000 03000000 00000000")
      ≡ Fault (ChunkHeaderSize 11) []
  pub then_block_size : header_fault (codes "3aff26ed 01000000 1c000c00 06000000 03000000 03000000 00000000")
      ≡ Fault (BlockSize 6) []
  pub no_block_size : header_fault (codes "3aff26ed 01000000 1c000c00 00000000 03000000 03000000 00000000")
      ≡ Fault (BlockSize 0) []
  pub in_extra_bytes : outcome (take 31 long_image) ≡ Fault (Truncated 31) []
  pub in_chunk_header : outcome (take 39 small_image) ≡ Fault (Truncated 39) []
  pub in_chunk_extra_bytes : outcome (take 46 long_image) ≡ Fault (Truncated 46) []
  pub in_raw_data : outcome (take 42 small_image) ≡ Fault (Truncated 42) (some (codes "AB"))
  pub in_fill_header : outcome (take 47 small_image) ≡ Fault (Truncated 47) (some (codes "ABCD"))
  pub in_fill_word : outcome (take 59 small_image) ≡ Fault (Truncated 59) (some (codes "ABCD"))
  pub type_first : chunk_fault (codes "c5ca0000 09000000 00000000") ≡ Fault (ChunkType 0 0xCAC5) []
  pub then_length : chunk_fault (codes "c1ca0000 09000000 0f000000") ≡ Fault (ChunkLength 0) []
  pub then_blocks : chunk_fault (codes "c1ca0000 03000000 18000000") ≡ Fault (TooManyBlocks 0) []
  pub bare_checksum : chunk_fault (codes "c4ca0000 00000000 0c000000") ≡ Fault (ChunkLength 0) []
  pub second_too_many : chunk_fault (codes "c1ca0000 01000000 10000000 41424344 c3ca0000 02000000 0c000000")
      ≡ Fault (TooManyBlocks 1) (some (codes "ABCD"))
  pub too_few : chunk_fault (codes "c1ca0000 01000000 10000000 41424344 c3ca0000 00000000 0c000000")
      ≡ Fault (TooFewBlocks 1) (some (codes "ABCD"))

-- ---- what is sparsed, weighed and cut

abbrev pub first_piece : List ℕ
first_piece = hex (codes "3aff26ed 01000000 1c000c00 04000000 03000000 02000000 00000000") ++ raw_abcd
    ++ hex (codes "c3ca0000 02000000 0c000000")

abbrev pub second_piece : List ℕ
second_piece = three_blocks ++ skip_one ++ fill_4321 ++ skip_one

abbrev pub raw_18 : List ℕ
raw_18 = codes "AAAAAAAAABCDEFGHIJ"

pub record WorkedPieces : Type 0 where
  pub cut : pieces 68 4 (classed small_chunks) ≡ first_piece ∷ second_piece ∷ []
  pub cut_long : map length (pieces 68 4 (classed small_chunks)) ≡ 56 ∷ 68 ∷ []
  pub weighs : weight 4 (classed small_chunks) ≡ 84
  pub at_weight : pieces 84 4 (classed small_chunks) ≡ small_image ∷ []
  pub at_length : map length (pieces 72 4 (classed small_chunks)) ≡ 56 ∷ 68 ∷ []
  pub nothing : pieces 68 4 [] ≡ image_nothing ∷ []
  pub skips : pieces 68 4 (classed skips_chunks)
      ≡ hex (codes "3aff26ed 01000000 1c000c00 04000000 05000000 01000000 00000000 c3ca0000 05000000 0c000000") ∷ []
  pub three : map length (pieces 68 4 (classed twice_raw_chunks)) ≡ 56 ∷ 68 ∷ 56 ∷ []
  pub three_in_turn : flashed_in_turn (replicate 16 0xff) (pieces 68 4 (classed twice_raw_chunks))
      ≡ hex (codes "41424344 04030201 5758595a ffffffff")
  pub filled : spelling 4 1 (classify 4 (codes "AAAAAAAAAB"))
      ≡ hex (codes "3aff26ed 01000000 1c000c00 04000000 03000000 02000000 00000000")
      ++ hex (codes "c2ca0000 02000000 10000000 41414141") ++ hex (codes "c2ca0000 01000000 10000000 41420000")
  pub filled_and_raw : spelling 8 100 (classify 8 raw_18)
      ≡ hex (codes "3aff26ed 01000000 1c000c00 08000000 03000000 02000000 00000000")
      ++ hex (codes "c2ca0000 01000000 10000000 41414141")
      ++ hex (codes "c1ca0000 02000000 1c000000 4142434445464748 494a000000000000")
  pub raw_cut : map count (chunks_of 2 (classify 8 (codes "abcdefghijklmnopqrstuvwxyzABCDEFGHIJKLMN"))) ≡ 2 ∷ 2 ∷ 1 ∷ []
  pub raw_cut_long : length (spelling 8 2 (classify 8 (codes "abcdefghijklmnopqrstuvwxyzABCDEFGHIJKLMN"))) ≡ 104
  pub raw_weighs : map (weight 8) (segments 88 8 (classify 8 raw_18)) ≡ 88 ∷ 72 ∷ []
  pub raw_pieces : map length (pieces 88 8 (classify 8 raw_18)) ≡ 76 ∷ 60 ∷ []
