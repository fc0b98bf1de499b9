use Rattle.std.proofs.Common.{◌≡◌, ◌≤◌, ◌+◌, ◌++◌, [], length, map, take, sum, Ok}
use Rattle.std.specs.Prelude.{IsTrue}
use Rattle.abt_io.specs.Lent.{OnlyReadsAll, OnlyWrites}
use Rattle.sha1.specs.Sha1.{Holds}
use Rattle.abt_sections.specs.Cause.{total}
use Rattle.abt_sections.specs.Grown.{Grows}
use Rattle.abt_sections.specs.Id.{sized_parts}
use Rattle.abt_sections.specs.Layout.{laid, laid_size}
use Rattle.abt_sections.specs.declared.fault.SectionFault.{SectionFault}
use Rattle.abt_sections.proofs.moving.move_parts.Given as goal

abbrev pub invariant-loop-i : goal.invariant-loop-i
invariant-loop-i g l =
    let s = g.S.Source in
    let o = g.O.Output in
    record {
      long : length l.parts ≡ length l.fn.parts;
      reads : OnlyReadsAll {X = Unit {0}} {E = SectionFault} (Ok tt) s l.fn.parts l.parts;
      once : total s.given l.parts ≤ total s.given l.fn.parts + sum (take l.i l.sizes);
      written : IsTrue s.models → o.written l.output ≡ o.written l.fn.output ++ laid l.page
          (take l.i (map s.content l.fn.parts));
      hashed : IsTrue l.id → IsTrue s.models → Holds l.fn.hasher []
          → Holds l.hasher (sized_parts (take l.i (map s.content l.fn.parts)));
      grown : Grows (o.written l.fn.output) (o.written l.output);
      all : length (o.written l.output) ≡ length (o.written l.fn.output) + laid_size l.page (take l.i l.sizes);
      lasting : take l.i (map s.size l.parts) ≡ take l.i l.sizes;
      writes : OnlyWrites {X = Unit {0}} {E = SectionFault} (Ok tt) 0 o l.fn.output l.output;
    }
