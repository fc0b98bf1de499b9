use Rattle.std.proofs.Common.{◌≡◌, ◌+◌, ◌*◌, ◌++◌, length, map, take, Ok}
use Rattle.abt_io.specs.Lent.{OnlyWrites}
use Rattle.abt_sections.specs.Cause.{total}
use Rattle.abt_sections.specs.VendorCanon.{table_for}
use Rattle.abt_sections.specs.declared.fault.SectionFault.{SectionFault}
use Rattle.abt_sections.proofs.vendor_packing.write_table.Given as goal

abbrev pub invariant-loop-i : goal.invariant-loop-i
invariant-loop-i g l =
    let s = g.S.Source in
    let o = g.O.Output in
    record {
      offset : l.offset ≡ total s.size (take l.i l.ramdisks);
      written : o.written l.output ≡ o.written l.fn.output ++ table_for (take l.i l.fragments)
          (take l.i (map s.size l.ramdisks)) 0;
      all : length (o.written l.output) ≡ length (o.written l.fn.output) + 108 * l.i;
      writes : OnlyWrites {X = Unit {0}} {E = SectionFault} (Ok tt) 0 o l.fn.output l.output;
    }
