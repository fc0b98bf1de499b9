use Rattle.std.proofs.Common.{refl}
use Rattle.abt_headers.specs.Vendor.{vendor_front_at}
use Rattle.abt_headers.proofs.vendor_reading.front_from.Goals as goal

pub returns : goal.returns
unfolding vendor_front_at
returns c = rw (
  c.u32_at.ensures,
  c.u32_at-2.ensures,
  c.u32_at-3.ensures,
  c.bytes_at.ensures,
  c.u32_at-4.ensures,
  c.bytes_at-2.ensures,
  c.u32_at-5.ensures,
  c.u32_at-6.ensures,
  c.u64_at.ensures,
) refl
