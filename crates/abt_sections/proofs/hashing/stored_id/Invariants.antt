use Rattle.std.proofs.Common.{take, Ok}
use Rattle.std.specs.Prelude.{IsTrue}
use Rattle.abt_io.specs.Lent.{OnlyReads}
use Rattle.sha1.specs.Sha1.{Holds}
use Rattle.abt_sections.specs.Id.{sized_parts}
use Rattle.abt_sections.specs.Layout.{parts_of}
use Rattle.abt_sections.specs.declared.fault.SectionFault.{SectionFault}
use Rattle.abt_sections.proofs.hashing.stored_id.Given as goal

abbrev pub invariant-loop-i : goal.invariant-loop-i
invariant-loop-i g l =
    let s = g.S.Source in
    record {
      reads : OnlyReads {X = Unit {0}} {E = SectionFault} (Ok tt) s l.fn.source l.source;
      hashed : IsTrue s.models → Holds l.hasher (sized_parts (take l.i (parts_of (s.content l.fn.source) l.sections)));
    }
