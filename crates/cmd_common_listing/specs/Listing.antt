-- The text of a listing.
use Rattle.std.specs.Prelude.{ℕ, List, [], ◌∷◌, ◌++◌, codes, decimal, slice_index}
use Rattle.std.specs.Int.{w32}
use Rattle.std.specs.Int.{to_be_bytes}
use Rattle.hex.specs.Hex.{encode_lower}
use Rattle.abt_sparse.specs.Chunk.{Header}
use Rattle.abt_sparse.specs.declared.kind.ChunkKind.{ChunkKind}
use Rattle.abt_sparse.specs.declared.kind.ChunkKind.TheVariants as kinds
use Rattle.abt_chunks.specs.declared.progress.ChunkInfo.{ChunkInfo}

abbrev pub header_text : Header → List ℕ
header_text h = codes "sparse 1." ++ (decimal h.minor
    ++ (codes " header " ++ (decimal h.file_hdr_sz ++ (codes " chunk " ++ (decimal h.chunk_hdr_sz
    ++ (codes " block " ++ (decimal h.blk_sz ++ (codes " blocks " ++ (decimal h.total_blks
    ++ (codes " chunks " ++ (decimal h.total_chunks
    ++ (codes " checksum " ++ encode_lower (to_be_bytes w32 h.image_checksum)))))))))))))

-- the number in these four bytes as it is written down, from its highest byte on
abbrev pub highest_first : List ℕ → List ℕ
highest_first word = slice_index word 3 ∷ slice_index word 2 ∷ slice_index word 1 ∷ slice_index word 0 ∷ []

abbrev pub kind_text : ChunkKind → ℕ → List ℕ → List ℕ
kind_text kinds.Raw n word = codes " raw " ++ decimal n
kind_text kinds.Fill n word = codes " fill " ++ (decimal n ++ (codes " " ++ encode_lower word))
kind_text kinds.Skip n word = codes " skip " ++ decimal n
kind_text kinds.Crc n word = codes " crc32 " ++ encode_lower (highest_first word)

abbrev pub chunk_text : ChunkInfo → List ℕ
chunk_text c = decimal c.index ++ kind_text c.kind c.blocks c.word
