use Rattle.abt_headers.proofs.BootLaws.{record_again}
use Rattle.abt_headers.proofs.boot.boot_again.Goals as goal

pub returns : goal.returns
returns c = record_again
