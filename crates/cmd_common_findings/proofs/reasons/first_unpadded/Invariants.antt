use Rattle.std.proofs.Common.{◌≡◌, drop}
use Rattle.std.specs.Prelude.{IsTrue, Ok}
use Rattle.abt_io.specs.Lent.{OnlyReads}
use Rattle.abt_sections.specs.Header.{page_of, places_of, view_of}
use Rattle.cmd_common_findings.specs.Finding as spec
use Rattle.cmd_common_findings.proofs.reasons.first_unpadded.Given as goal

abbrev pub invariant-loop-i : goal.invariant-loop-i
invariant-loop-i g l =
    let s = g.S.Source in
    let h = view_of l.image.header in
    record {
      reads : OnlyReads {X = Unit {0}} {E = Unit {0}} (Ok tt) s l.fn.source l.source;
      value : IsTrue s.models → spec.first_unpadded (s.content l.fn.source) h
          ≡ spec.first_behind (s.content l.fn.source) (page_of h) (drop l.i (places_of h));
    }
