use Rattle.abt_headers.proofs.EntryLaws.{record_again}
use Rattle.abt_headers.proofs.entry.entry_again.Goals as goal

pub returns : goal.returns
returns c = record_again
