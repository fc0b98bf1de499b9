use Rattle.abt_headers.proofs.BootLaws.{record_again, record_length}
use Rattle.abt_headers.proofs.boot.BootHeader.encode.Goals as goal

pub returns-clause-again : goal.returns-clause-again
returns-clause-again c rest = record_again c.args.self.now rest c.boot_header_fits.ensures

pub returns-clause-long : goal.returns-clause-long
returns-clause-long c = record_length c.args.self.now c.boot_header_fits.ensures
