use Rattle.abt_headers.proofs.VendorLaws.{record_length}
use Rattle.abt_headers.proofs.vendor.vendor_long.Goals as goal

pub returns : goal.returns
returns c = record_length
