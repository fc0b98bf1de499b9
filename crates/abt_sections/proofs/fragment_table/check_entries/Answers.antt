use Rattle.std.proofs.Common.{arith, length, ap}
use Rattle.abt_sections.specs.Header.{view_of}
use Rattle.abt_sections.proofs.Causes.{read_entries}
use Rattle.abt_sections.proofs.Entries.{table_there}
use Rattle.abt_sections.proofs.Refusals.{opens_on}
use Rattle.abt_sections.proofs.fragment_table.check_entries.Goals as goal

pub returns-in-Err-clause-found : goal.returns-in-Err-clause-found
returns-in-Err-clause-found g c = λ models there.
    let v = c.loop-i.invariant.reads in
    let x = g.S.Source.content c.args.source.now in
    let t = c.table_of-table.ensures in
    let h = view_of c.args.header.now in
    let e = table_there h (length x) c.loop-i.i t.whole there (omega (arith, t.count)) in
    read_entries _ _ _ _ x h (λ changed. changed models (omega (arith, e, t.at, t.count, ap length (v.content models))))
    c.in-Err.ensures.found.reads.cause

pub returns-in-Err-clause-reads : goal.returns-in-Err-clause-reads
returns-in-Err-clause-reads g c =
    let v = c.loop-i.invariant.reads in
    let x = g.S.Source.content c.args.source.now in
    let t = c.table_of-table.ensures in
    let h = view_of c.args.header.now in
    opens_on v c.in-Err.ensures.found.reads (λ changed models there. changed models (omega (
      arith,
      table_there h (length x) c.loop-i.i t.whole there (omega (arith, t.count)),
      t.at,
      t.count,
      ap length (v.content models),
    )))
