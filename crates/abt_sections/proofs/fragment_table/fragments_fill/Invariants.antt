use Rattle.std.proofs.Common.{◌≡◌, ◌≤◌, ◌<◌, ◌*◌, ℕ}
use Rattle.std.specs.Prelude.{IsTrue, Ok}
use Rattle.abt_io.specs.Lent.{OnlyReads}
use Rattle.abt_sections.specs.Entries.{ComesNext, EntriesStand}
use Rattle.abt_sections.specs.Header.{view_of, entry_of}
use Rattle.abt_sections.specs.Check.{sizes_before}
use Rattle.abt_sections.proofs.fragment_table.fragments_fill.Given as goal

abbrev pub invariant-loop-i : goal.invariant-loop-i
invariant-loop-i g l =
    let s = g.S.Source in
    let h = view_of l.header in
    record {
      reads : OnlyReads {X = Unit {0}} {E = Unit {0}} (Ok tt) s l.fn.source l.source;
      held : ComesNext l.held.first l.held.end l.i l.table.count;
      stand : IsTrue s.models → EntriesStand l.w.bytes (s.content l.fn.source) l.table.at l.held.first l.held.end;
      low : l.next ≤ 4294967295 * l.i;
      next : IsTrue s.models → l.next ≡ sizes_before (s.content l.fn.source) h l.i;
      placed : IsTrue s.models → (j : ℕ) → j < l.i
          → (entry_of (s.content l.fn.source) h j).ramdisk_offset ≡ sizes_before (s.content l.fn.source) h j;
    }
