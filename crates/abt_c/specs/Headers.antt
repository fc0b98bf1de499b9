-- What is reported to C of the headers of a sparse image, in the numbers of a state.
use Rattle.std.specs.Prelude.{ℕ, [], ◌∷◌}
use Rattle.abt_sparse.specs.declared.kind.ChunkKind.{ChunkKind}
use Rattle.abt_sparse.specs.declared.kind.ChunkKind.TheVariants as kinds
use Rattle.abt_c.specs.declared.state.AbtSparse.{AbtSparse}
use Rattle.abt_c.specs.declared.sparse_header.AbtChunk.{AbtChunk}
use Rattle.abt_c.specs.declared.sparse_header.AbtHeader.{AbtHeader}
use Rattle.abt_c.specs.Standing.{state_kind}

abbrev pub chunk_kind : ChunkKind → ℕ
chunk_kind kinds.Raw = 1
chunk_kind kinds.Fill = 2
chunk_kind kinds.Skip = 3
chunk_kind kinds.Crc = 7

abbrev pub no_header : AbtHeader
no_header = record { major = 0; minor = 0; header_size = 0; chunk_header_size = 0; checksum = 0 }

abbrev pub header_told : AbtSparse → AbtHeader
header_told s = record {
  major = 1;
  minor = s.minor;
  header_size = s.file_hdr_sz;
  chunk_header_size = s.chunk_hdr_sz;
  checksum = s.image_checksum;
}

abbrev pub no_chunk : AbtChunk
no_chunk = record { left = 0; headers = 0; blocks = 0; kind = 0; due = 0; extra = 0; word = 0 ∷ 0 ∷ 0 ∷ 0 ∷ [] }

-- the chunk whose header was read last
abbrev pub chunk_told : AbtSparse → AbtChunk
chunk_told s = record {
  left = s.raw;
  headers = s.index;
  blocks = s.have;
  kind = chunk_kind (state_kind s);
  due = s.due;
  extra = s.extra;
  word = s.word;
}
