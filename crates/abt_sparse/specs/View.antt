-- The header type of the code as the header of the definitions: the same numbers.
use Rattle.abt_sparse.specs.declared.header.SparseHeader.{SparseHeader}
use Rattle.abt_sparse.specs.Chunk.{Header}

abbrev pub view : SparseHeader → Header
view h = record {
  minor = h.minor;
  file_hdr_sz = h.file_hdr_sz;
  chunk_hdr_sz = h.chunk_hdr_sz;
  blk_sz = h.blk_sz;
  total_blks = h.total_blks;
  total_chunks = h.total_chunks;
  image_checksum = h.image_checksum;
}
