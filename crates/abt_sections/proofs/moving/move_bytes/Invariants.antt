use Rattle.std.proofs.Common.{◌-◌, ◌≡◌, ◌≤◌, ◌++◌, ℕ, List, take, ◌+◌, length, Ok}
use Rattle.std.specs.Prelude.{IsTrue}
use Rattle.abt_io.specs.Lent.{OnlyReads, OnlyWrites}
use Rattle.sha1.specs.Sha1.{Holds}
use Rattle.abt_sections.specs.Grown.{Grows}
use Rattle.abt_sections.specs.declared.fault.SectionFault.{SectionFault}
use Rattle.abt_sections.proofs.moving.move_bytes.Given as goal

abbrev pub invariant-loop-at : goal.invariant-loop-at
invariant-loop-at g l =
    let s = g.S.Source in
    let o = g.O.Output in
    record {
      within : l.at ≤ l.n;
      reads : OnlyReads {X = Unit {0}} {E = SectionFault} (Ok tt) s l.fn.part l.part;
      once : s.given l.part ≤ s.given l.fn.part + l.at;
      present : IsTrue s.models → l.at ≤ length (s.content l.fn.part);
      written : IsTrue s.models → o.written l.output ≡ o.written l.fn.output ++ take l.at (s.content l.fn.part);
      hashed : IsTrue l.id → IsTrue s.models → (t : List ℕ) → Holds l.fn.hasher t
          → Holds l.hasher (t ++ take l.at (s.content l.fn.part));
      grown : Grows (o.written l.fn.output) (o.written l.output);
      all : length (o.written l.output) ≡ length (o.written l.fn.output) + l.at;
      writes : OnlyWrites {X = Unit {0}} {E = SectionFault} (Ok tt) 0 o l.fn.output l.output;
    }

abbrev pub decreases-loop-at : goal.decreases-loop-at
decreases-loop-at g l = l.n - l.at
