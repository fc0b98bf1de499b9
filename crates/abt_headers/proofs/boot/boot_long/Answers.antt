use Rattle.abt_headers.proofs.BootLaws.{record_length}
use Rattle.abt_headers.proofs.boot.boot_long.Goals as goal

pub returns : goal.returns
returns c = record_length
