use Rattle.abt_headers.specs.Vendor.{vendor_view}
use Rattle.abt_headers.proofs.VendorLaws.{record_again, record_length}
use Rattle.abt_headers.proofs.vendor.VendorHeader.encode.Goals as goal

pub returns-clause-again : goal.returns-clause-again
returns-clause-again c rest = record_again (vendor_view c.args.self.now) rest c.vendor_header_fits.ensures

pub returns-clause-long : goal.returns-clause-long
returns-clause-long c = record_length (vendor_view c.args.self.now) c.vendor_header_fits.ensures
