use Rattle.std.proofs.Common.{arith, length, Ok}
use Rattle.abt_io.proofs.Lent.{reads_none}
use Rattle.abt_sections.specs.Header.{view_of}
use Rattle.abt_sections.proofs.Refusals.{reads_on}
use Rattle.abt_sections.proofs.Tables.{entry_there}
use Rattle.abt_sections.proofs.fragment_table.fragment.Goals as goal

pub returns-in-Err-clause-reads : goal.returns-in-Err-clause-reads
returns-in-Err-clause-reads g c =
    let x = g.S.Source.content c.args.source.now in
    let t = c.table_of-table.ensures in
    let h = view_of c.args.image.now.header in
    let before = reads_none {X = Unit {0}} {E = Unit {0}} (Ok tt) g.S.Source c.args.source.now in
    reads_on before c.in-Err.ensures.reads (λ changed models opened. changed models (omega
    (arith, entry_there h (length x) c.args.i t.whole opened.has.there c.requires, t.at)))
