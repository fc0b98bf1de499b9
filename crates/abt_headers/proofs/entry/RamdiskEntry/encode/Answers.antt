use Rattle.std.proofs.Common.{sym, ◌∙◌, append-nil, []}
use Rattle.abt_headers.specs.Field.{joined_fields}
use Rattle.abt_headers.specs.Entry.{entry_record, entry_fields}
use Rattle.abt_headers.proofs.Fields.{joined_rest}
use Rattle.abt_headers.proofs.EntryLaws.{entry_again}
use Rattle.abt_headers.proofs.entry.RamdiskEntry.encode.Goals as goal

pub returns-clause-again : goal.returns-clause-again
unfolding entry_record
returns-clause-again c =
    let e = c.args.self.now in
    entry_again e c.entry_bytes.result c.entry_fits.ensures (c.entry_bytes.ensures
    ∙ sym (append-nil (joined_fields (entry_fields e))) ∙ joined_rest (entry_fields e) [])
