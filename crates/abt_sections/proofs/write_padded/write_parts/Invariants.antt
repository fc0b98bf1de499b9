use Rattle.std.proofs.Common.{◌≡◌, ◌+◌, ◌++◌, length, map, take, Ok}
use Rattle.std.specs.Prelude.{IsTrue}
use Rattle.abt_io.specs.Lent.{OnlyReadsAll, OnlyWrites}
use Rattle.abt_sections.specs.Layout.{laid, laid_size}
use Rattle.abt_sections.specs.declared.fault.SectionFault.{SectionFault}
use Rattle.abt_sections.proofs.write_padded.write_parts.Given as goal

abbrev pub invariant-loop-i : goal.invariant-loop-i
invariant-loop-i g l =
    let s = g.S.Source in
    let o = g.O.Output in
    record {
      long : length l.parts ≡ length l.fn.parts;
      reads : OnlyReadsAll {X = Unit {0}} {E = SectionFault} (Ok tt) s l.fn.parts l.parts;
      written : IsTrue s.models → o.written l.output ≡ o.written l.fn.output ++ laid l.page
          (take l.i (map s.content l.fn.parts));
      all : length (o.written l.output) ≡ length (o.written l.fn.output) + laid_size l.page (take l.i l.sizes);
      lasting : take l.i (map s.size l.parts) ≡ take l.i l.sizes;
      writes : OnlyWrites {X = Unit {0}} {E = SectionFault} (Ok tt) 0 o l.fn.output l.output;
    }
