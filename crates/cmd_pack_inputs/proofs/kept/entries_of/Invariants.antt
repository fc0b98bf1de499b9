use Rattle.std.proofs.Common.{◌≡◌}
use Rattle.std.specs.Prelude.{IsTrue, Ok}
use Rattle.abt_io.specs.Lent.{OnlyReads}
use Rattle.abt_sections.specs.Header.{view_of}
use Rattle.cmd_pack_inputs.specs.Own.{entries_to}
use Rattle.cmd_pack_inputs.proofs.kept.entries_of.Given as goal

abbrev pub invariant-loop-i : goal.invariant-loop-i
invariant-loop-i g l =
    let s = g.S.Source in
    record {
      only : OnlyReads {X = Unit {0}} {E = Unit {0}} (Ok tt) s l.fn.source l.source;
      entries : IsTrue s.models → l.entries.items ≡ entries_to (s.content l.fn.source) (view_of l.image.header) l.i;
    }
