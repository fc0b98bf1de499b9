use Rattle.std.proofs.Common.{arith, ap, ◌∙◌}
use Rattle.abt_headers.specs.Entry.{entry_record}
use Rattle.abt_headers.proofs.EntryLaws.{entry_back}
use Rattle.abt_headers.proofs.entry.RamdiskEntry.decode.Goals as goal

pub returns-clause-back : goal.returns-clause-back
returns-clause-back c = ap entry_record c.entry_from.ensures
    ∙ entry_back c.args.bytes.now c.told-bytes (λ i. omega (arith, c.fits-bytes i))
