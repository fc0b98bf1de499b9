use Rattle.std.proofs.Common.{arith}
use Rattle.abt_sparse.proofs.Fields.{Checked-to, fields_are}
use Rattle.abt_sparse.proofs.records.header_of.Goals as goal

pub returns : goal.returns
returns c = Checked-to c.args.bytes.now _ record {
  magic = omega (arith, c.u32_at-magic.ensures);
  major = omega (arith, c.u16_at-major.ensures);
  is = fields_are c.args.bytes.now _ _ _ _ _ _ _ c.u16_at-minor.ensures c.u16_at-file_hdr_sz.ensures
      c.u16_at-chunk_hdr_sz.ensures c.u32_at-blk_sz.ensures
      c.u32_at-total_blks.ensures c.u32_at-total_chunks.ensures c.u32_at-image_checksum.ensures;
  file_hdr_sz = omega arith;
  chunk_hdr_sz = omega arith;
  some = omega arith;
  four = omega arith;
}
