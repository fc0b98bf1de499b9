use Rattle.std.proofs.Common.{arith}
use Rattle.abt_headers.proofs.VendorLaws.{vendor_backs, vendor_sizes, vendor_found, vendor_reads}
use Rattle.abt_headers.proofs.vendor.VendorHeader.decode.Goals as goal

pub returns-clause-size : goal.returns-clause-size
returns-clause-size c =
    vendor_sizes c.args.bytes.now c.read_vendor_header.result
    (λ i. omega (arith, c.type_inv.bytes i)) c.read_vendor_header.ensures

pub returns-clause-back : goal.returns-clause-back
returns-clause-back c =
    vendor_backs c.args.bytes.now c.read_vendor_header.result
    (λ i. omega (arith, c.type_inv.bytes i)) c.read_vendor_header.ensures

pub returns-clause-found : goal.returns-clause-found
returns-clause-found c v rest fits is =
    vendor_found c.args.bytes.now c.read_vendor_header.result c.read_vendor_header.ensures v rest fits is

pub returns-clause-fault : goal.returns-clause-fault
returns-clause-fault c = vendor_reads c.args.bytes.now c.read_vendor_header.result c.read_vendor_header.ensures
