use Rattle.std.proofs.Common.{◌≡◌, ◌+◌, ◌++◌, length, map, take, Ok}
use Rattle.std.specs.Prelude.{IsTrue}
use Rattle.std.specs.List.{concat}
use Rattle.abt_io.specs.Lent.{OnlyReadsAll, OnlyWrites}
use Rattle.abt_sections.specs.Cause.{total}
use Rattle.abt_sections.specs.declared.fault.SectionFault.{SectionFault}
use Rattle.abt_sections.proofs.vendor_packing.write_ramdisks.Given as goal

abbrev pub invariant-loop-i : goal.invariant-loop-i
invariant-loop-i g l =
    let s = g.S.Source in
    let o = g.O.Output in
    record {
      long : length l.ramdisks ≡ length l.fn.ramdisks;
      reads : OnlyReadsAll {X = Unit {0}} {E = SectionFault} (Ok tt) s l.fn.ramdisks l.ramdisks;
      lasting : map s.size l.ramdisks ≡ map s.size l.fn.ramdisks;
      written : IsTrue s.models → o.written l.output ≡ o.written l.fn.output ++ concat
          (take l.i (map s.content l.fn.ramdisks));
      all : length (o.written l.output) ≡ length (o.written l.fn.output) + total s.size (take l.i l.fn.ramdisks);
      writes : OnlyWrites {X = Unit {0}} {E = SectionFault} (Ok tt) 0 o l.fn.output l.output;
    }
