use Rattle.abt_headers.proofs.EntryLaws.{record_length}
use Rattle.abt_headers.proofs.entry.entry_long.Goals as goal

pub returns : goal.returns
returns c = record_length
