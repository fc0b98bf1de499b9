use Rattle.std.proofs.Common.{◌≡◌, ◌≤◌, ◌+◌, ◌*◌, drop}
use Rattle.std.specs.Prelude.{IsTrue, Ok}
use Rattle.abt_io.specs.Lent.{OnlyReads}
use Rattle.abt_sections.specs.Header.{page_of, places_of, view_of}
use Rattle.cmd_common_findings.specs.LeftOut.{behind_places, padding_left}
use Rattle.cmd_common_findings.proofs.left_out.padding_left.Given as goal

abbrev pub invariant-loop-i : goal.invariant-loop-i
invariant-loop-i g l =
    let s = g.S.Source in
    let h = view_of l.image.header in
    record {
      reads : OnlyReads {X = Unit {0}} {E = Unit {0}} (Ok tt) s l.fn.source l.source;
      few : l.count ≤ 131072 * (l.i + 1);
      value : IsTrue s.models → l.count + behind_places (s.content l.fn.source) (page_of h) (drop l.i (places_of h))
          ≡ padding_left (s.content l.fn.source) h;
    }
