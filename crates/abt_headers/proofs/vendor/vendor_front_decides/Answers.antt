use Rattle.abt_headers.proofs.Front.{vendor_same}
use Rattle.abt_headers.proofs.vendor.vendor_front_decides.Goals as goal

pub returns : goal.returns
returns c = vendor_same
