use Rattle.std.proofs.Common.{◌-◌, ◌≤◌, ◌++◌, ℕ, List, take, drop, ◌+◌, ◌<◌, length, Ok}
use Rattle.std.specs.Prelude.{IsTrue}
use Rattle.abt_io.specs.Lent.{OnlyReads}
use Rattle.sha1.specs.Sha1.{Holds}
use Rattle.abt_sections.specs.declared.fault.SectionFault.{SectionFault}
use Rattle.abt_sections.proofs.hashing.hash_range.Given as goal

abbrev pub invariant-loop-at : goal.invariant-loop-at
invariant-loop-at g l =
    let bytes = g.S.Source.content in
    record {
      within : l.at ≤ l.n;
      reads : OnlyReads {X = Unit {0}} {E = SectionFault} (Ok tt) g.S.Source l.fn.source l.source;
      present : IsTrue g.S.Source.models → 0 < l.at → l.from + l.at ≤ length (bytes l.fn.source);
      hashed : IsTrue g.S.Source.models → (t : List ℕ) → Holds l.fn.hasher t
          → Holds l.hasher (t ++ take l.at (drop l.from (bytes l.fn.source)));
    }

abbrev pub decreases-loop-at : goal.decreases-loop-at
decreases-loop-at g l = l.n - l.at
