use Rattle.std.proofs.Common.{◌≡◌, length, map, take, Ok}
use Rattle.std.specs.Prelude.{IsTrue}
use Rattle.abt_io.specs.Lent.{OnlyReadsAll}
use Rattle.sha1.specs.Sha1.{Holds}
use Rattle.abt_sections.specs.Id.{sized_parts}
use Rattle.abt_sections.specs.declared.fault.SectionFault.{SectionFault}
use Rattle.abt_sections.proofs.hashing.hash_parts.Given as goal

abbrev pub invariant-loop-i : goal.invariant-loop-i
invariant-loop-i g l =
    let s = g.S.Source in
    record {
      long : length l.parts ≡ length l.fn.parts;
      reads : OnlyReadsAll {X = Unit {0}} {E = SectionFault} (Ok tt) s l.fn.parts l.parts;
      hashed : IsTrue s.models → Holds l.hasher (sized_parts (take l.i (map s.content l.fn.parts)));
    }
