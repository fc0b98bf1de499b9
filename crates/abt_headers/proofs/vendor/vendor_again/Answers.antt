use Rattle.abt_headers.proofs.VendorLaws.{record_again}
use Rattle.abt_headers.proofs.vendor.vendor_again.Goals as goal

pub returns : goal.returns
returns c = record_again
