use Rattle.std.proofs.Common.{◌≡◌, drop}
use Rattle.std.specs.Prelude.{IsTrue, Ok}
use Rattle.abt_io.specs.Lent.{OnlyReads}
use Rattle.abt_sections.specs.Check.{padded_places}
use Rattle.abt_sections.proofs.checking.places_padded.Given as goal

abbrev pub invariant-loop-i : goal.invariant-loop-i
invariant-loop-i g l =
    let s = g.S.Source in
    record {
      reads : OnlyReads {X = Unit {0}} {E = Unit {0}} (Ok tt) s l.fn.source l.source;
      value : IsTrue s.models → padded_places (s.content l.fn.source) l.page (drop l.i l.sections)
          ≡ padded_places (s.content l.fn.source) l.page l.sections;
    }
